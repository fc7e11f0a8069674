-- RULES, "The answers in words": what the front door says of the answers of "Numbers returned", in the words of docs/NUMBERS.md.
use Rattle.std.specs.Prelude.{Bool, cond, ◌&&◌, [], ◌++◌, ℕ, min, eqb, ltb}
use Rattle.meaning.specs.declared.Mode.{Mode}
use Rattle.meaning.specs.declared.Mode.TheVariants.{Packets}
use Rattle.meaning.specs.declared.Outcome.{Outcome}
use Rattle.meaning.specs.declared.Planned.{Planned}
use Rattle.meaning.specs.declared.Names.{Names}
use Rattle.meaning.specs.declared.Judgement.{Judgement}
use Rattle.meaning.specs.declared.Choice.{Choice}
use Rattle.meaning.specs.declared.Choice.TheVariants.{Neither, First, Second}
use Rattle.meaning.specs.Words.{Bytes}
use Rattle.meaning.specs.Answer.{is_accepted}
use Rattle.meaning.specs.Lister.{text, decimal, said, refusal}
use Rattle.sayings.specs.Saying.{saying_in}

-- "Whom a refusal names": 12 to 15 are said of senders of a slot
abbrev pub of_senders : (number : ℕ) → Bool
of_senders number = ltb 11 number && ltb number 16

-- whom a number is said of: these senders, or nobody
unfoldable pub subject : (number : ℕ) → (senders : Bytes) → Bytes
subject number senders = cond (of_senders number) senders []

-- what a number says of them, in a mode
abbrev pub said_of : Mode → (number : ℕ) → (senders : Bytes) → Bytes
said_of mode number senders = subject number senders ++ saying_in mode number

-- 15 is said of two senders, and the others of one
unfoldable pub one_or_two : (number : ℕ) → (two one : Bytes) → Bytes
one_or_two number two one = cond (eqb number 15) two one

-- the senders where they are not named
abbrev pub any_senders : (number : ℕ) → Bytes
any_senders number = one_or_two number (text "two senders of the slot") (text "a sender of the slot")

-- the senders by their names
abbrev pub the_senders : (number : ℕ) → Names → Bytes
the_senders number names = one_or_two number (said "senders" names.first ++ said " and" names.second) (said "sender" names.first)

-- "Whom a refusal names": the senders that a refusal names, and their slot, which is its place
abbrev pub named_senders : Outcome → Names → Bytes
named_senders outcome names = the_senders outcome.number names ++ said " of slot" outcome.place

-- "Numbers returned": a refusal's number and place, and the number in plain words, which 12 to 15 say of these senders
abbrev pub refused_of : Mode → Outcome → (senders : Bytes) → Bytes
refused_of mode outcome senders = refusal outcome ++ text ": " ++ said_of mode outcome.number senders ++ text "\n"

-- "Numbers returned": the line of a refusal that names nobody
unfoldable pub refused_line : Outcome → Bytes
refused_line outcome = refused_of Packets outcome (any_senders outcome.number)

-- "Whom a refusal names": the line of a refusal by the judge of a mode
unfoldable pub blamed_line : Mode → Outcome → Names → Bytes
blamed_line mode outcome names = refused_of mode outcome (named_senders outcome names)

-- "Numbers returned": what a planner answers; more bytes than 65,535, which no plan of ours has, count as 65,535
unfoldable pub planned_line : Planned → Bytes
planned_line planned =
    cond (is_accepted planned.outcome)
    (said "planned" planned.slots ++ said " slots," planned.colours ++ said " colours," (min planned.bytes 65535) ++ text " bytes\n")
    (refused_line planned.outcome)

-- "Numbers returned", "Whom a refusal names": what the judge of a mode answers
unfoldable pub verdict_line : Mode → Judgement → Bytes
verdict_line mode judgement =
    cond (is_accepted judgement.verdict.outcome)
    (said "passed" judgement.verdict.slots ++ text " slots\n")
    (blamed_line mode judgement.verdict.outcome judgement.names)

-- "Numbers returned": which of two plans the chooser hands back
abbrev pub choice_line : Choice → Bytes
choice_line First = text "first\n"
choice_line Second = text "second\n"
choice_line Neither = text "neither\n"

-- "Numbers returned": the choice, and the judge's answer on each of the two plans
unfoldable pub choice_text : Choice → (first second : Judgement) → Bytes
choice_text choice first second =
    choice_line choice ++ text "first: " ++ verdict_line Packets first ++ text "second: " ++ verdict_line Packets second

-- "The answers in words": what is said where a text, a sheet or a book is written
unfoldable pub written_line : Outcome → (bytes : ℕ) → Bytes
written_line outcome bytes = cond (is_accepted outcome) (text "written " ++ decimal 20 bytes ++ text " bytes\n") (refused_line outcome)

-- "The answers in words": the refusal of a text, whose place may have twenty digits
unfoldable pub misread_line : (number place : ℕ) → Bytes
misread_line number place =
    said "refused" number ++ text " " ++ decimal 20 place ++ text ": " ++ said_of Packets number (any_senders number) ++ text "\n"
