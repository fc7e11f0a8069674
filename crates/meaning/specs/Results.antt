-- RULES, "Numbers returned": what the code answers is Ok where nothing is wrong, and else Err with the refusal; here it is said in the words of the table.
use Rattle.std.specs.Prelude.{◌≡◌, Result, Ok, Err, ⊤, ℕ}
use Rattle.meaning.specs.declared.Refusal.{Refusal}
use Rattle.meaning.specs.declared.Blame.{Blame}
use Rattle.meaning.specs.declared.Plan.{Plan}
use Rattle.meaning.specs.declared.Limits.{Limits}
use Rattle.meaning.specs.declared.MergedLimits.{MergedLimits}
use Rattle.meaning.specs.declared.Outcome.{Outcome}
use Rattle.meaning.specs.declared.Planned.{Planned}
use Rattle.meaning.specs.declared.Judgement.{Judgement}
use Rattle.meaning.specs.declared.Told.{Told}
use Rattle.meaning.specs.declared.MergedTold.{MergedTold}
use Rattle.meaning.specs.Returned.{number_of, Tested, Booked}
use Rattle.meaning.specs.Answer.{accepted, refused_plan}
use Rattle.meaning.specs.Judge.{nobody}

-- "Numbers returned": the number and the place of a refusal
abbrev pub outcome_of : Refusal → Outcome
outcome_of refusal = record { number = number_of refusal.fault; place = refusal.place }

-- the whole where nothing is wrong, and else the refusal
abbrev pub Answers : {A : Type 0} → Outcome → A → Result A Refusal → Type 0
Answers outcome whole (Ok found) = (accepted ≡ outcome) × (found ≡ whole)
Answers outcome whole (Err refusal) = outcome_of refusal ≡ outcome

-- "Numbers returned": what a test answers
abbrev pub test_answer : Result ⊤ Refusal → Outcome
test_answer (Ok _) = accepted
test_answer (Err refusal) = outcome_of refusal

-- "Whom a refusal names": what the test of a slot, or of a plan's slots, answers
abbrev pub tested_answer : Result ⊤ Blame → Tested
tested_answer (Ok _) = record { outcome = accepted; names = nobody }
tested_answer (Err blame) = record { outcome = outcome_of blame.refusal; names = blame.names }

-- "Numbers returned": what a planner answers
abbrev pub plan_answer : Result Plan Refusal → Planned
plan_answer (Ok plan) = record { outcome = accepted; colours = plan.colours; slots = plan.slots; bytes = plan.bytes }
plan_answer (Err refusal) = refused_plan (outcome_of refusal)

-- "Whom a refusal names": what the judge answers, the slots of a passed plan or the blame
abbrev pub judge_answer : Result ℕ Blame → Judgement
judge_answer (Ok slots) = record { verdict = record { outcome = accepted; slots = slots }; names = nobody }
judge_answer (Err blame) = record { verdict = record { outcome = outcome_of blame.refusal; slots = 0 }; names = blame.names }

-- "The wake book": what the maker of wake books answers, the bytes of a book or the blame
abbrev pub book_answer : Result ℕ Blame → Booked
book_answer (Ok bytes) = record { outcome = accepted; names = nobody; bytes = bytes }
book_answer (Err blame) = record { outcome = outcome_of blame.refusal; names = blame.names; bytes = 0 }

-- "The telephone": what it answers
abbrev pub told_answer : Result Limits Refusal → Told
told_answer (Ok limits) = record { outcome = accepted; least = limits.least; ours = limits.ours; most = limits.most; times = limits.times }
told_answer (Err refusal) = record { outcome = outcome_of refusal; least = 0; ours = 0; most = 0; times = 0 }

-- "Merged readings": what the telephone answers of them
abbrev pub merged_told_answer : Result MergedLimits Refusal → MergedTold
merged_told_answer (Ok limits) = record { outcome = accepted; least = limits.least; ours = limits.ours; most = limits.most }
merged_told_answer (Err refusal) = record { outcome = outcome_of refusal; least = 0; ours = 0; most = 0 }
