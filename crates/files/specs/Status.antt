-- What is answered where the operating system decides: the exit status.
use Rattle.std.specs.Prelude.{◌≡◌, cond, ◌⊎◌, ℕ, eqb, Result, Ok, Err}
use Rattle.meaning.specs.declared.Outcome.{Outcome}
use Rattle.files.specs.declared.Answer.{Answer}
use Rattle.files.specs.declared.Answer.TheVariants.{Answered, Refused, Other}
use Rattle.files.specs.declared.Failed.{Failed}

-- the exit status: answered, refused, or not answered at all
abbrev pub Status : Type 0
Status = Result Answer Failed

abbrev pub answered : Status
answered = Ok Answered

abbrev pub refused : Status
refused = Ok Refused

abbrev pub failed : Status
failed = Err (record {})

-- the number that a program ends with
abbrev pub exit_number : Status → ℕ
exit_number (Ok Answered) = 0
exit_number (Ok Refused) = 1
exit_number (Ok (Other _)) = 2
exit_number (Err _) = 2

-- the status of an answer, by its number
abbrev pub number_status : (number : ℕ) → Status
number_status number = cond (eqb number 0) answered refused

abbrev pub status_of : Outcome → Status
status_of outcome = number_status outcome.number

-- the status of what was made, or refused
abbrev pub status_by : {A E : Type 0} → Result A E → Status
status_by (Ok _) = answered
status_by (Err _) = refused

-- one of the three
abbrev pub IsStatus : (status : Status) → Type 0
IsStatus status = (status ≡ answered) ⊎ ((status ≡ refused) ⊎ (status ≡ failed))

-- a status, unless the system fails
abbrev pub OrFailed : (status r : Status) → Type 0
OrFailed status r = (r ≡ status) ⊎ (r ≡ failed)
