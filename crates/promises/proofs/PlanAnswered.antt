-- What a planner answers, by any way in either mode: its plan wherever the sheet is accepted and there is room, and else the refusal of its tests. By the laws of
-- what is made, and since our own plans pass.
use mathlib.Core.Path.{◌≡◌, refl, sym, ap, ap₂, ◌∙◌}
use mathlib.Core.Bool.{Bool, true, false}
use Prim.Native.Nat.{◌≤◌, ◌<◌}
use native.Mathlib.Omega.{arith}
use borrow.Author.Tests.{lt-ltb}
use lib.Dec.{ltb}
use lib.ListN.{length, take, drop}
use lib.Seq.{take_at}
use Rattle.meaning.specs.declared.Mode.{Mode}
use Rattle.meaning.specs.declared.Outcome.{Outcome}
use Rattle.meaning.specs.declared.Planned.{Planned}
use Rattle.meaning.specs.Words.{Bytes}
use Rattle.meaning.specs.Plan.{plan_bytes, room_for, front}
use Rattle.meaning.specs.Rounds.{Way, sendings_in, slots_in}
use Rattle.meaning.specs.Answer.{accepted, is_accepted, given, ◌then◌, sheet_test, plan_test_in, refused_plan, PlanMade, plan_made_in}
use Rattle.meaning.specs.Judge.{judge_in}
use Rattle.laws.proofs.Accepted.{then-goes, then-stays}
use Rattle.laws.proofs.Modes.{sendings-most}
use Rattle.laws.proofs.Own.{OwnPlan}
use Rattle.laws.proofs.PlanMade.{tested, whole, nothing, makes, sheet-refuses, room-passes}
use Rattle.promises.specs.Answers.{AnswersIn, counted_in, Accepted, Refused}

module _ (mode : Mode) (by : Bytes → Way) (s buffer : Bytes) where
  abbrev its : Outcome
  its = tested mode by s (length buffer)

  -- what is made decides the answer and the buffer
  pub of-made : (made : PlanMade) → plan_made_in mode by s (length buffer) ≡ made → AnswersIn mode by s buffer made.answer (front buffer made.written)
  of-made made is = (ap (λ (m : PlanMade). m.answer) is, ap (λ (m : PlanMade). front buffer m.written) is)

  refuses : (o : Outcome) → its ≡ o → is_accepted o ≡ false → AnswersIn mode by s buffer (refused_plan o) buffer
  refuses o is not0 =
      of-made (nothing mode by s (length buffer) o)
      (makes mode by s (length buffer) false (ap is_accepted is ∙ not0) ∙ ap (nothing mode by s (length buffer)) is)

  pub sheet-refused : Refused s → AnswersIn mode by s buffer (refused_plan (sheet_test s)) buffer
  sheet-refused refused = refuses (sheet_test s) (sheet-refuses mode by s (length buffer) refused) refused

  pub room-refused : Accepted s → length buffer < room_for (sendings_in mode s) → AnswersIn mode by s buffer (refused_plan (record { number = 9; place = 0 })) buffer
  unfolding plan_test_in
  room-refused ok short =
      refuses (record { number = 9; place = 0 })
      (then-goes (sheet_test s) _ ok
      ∙ ap (λ (t : Bool). given 9 0 t then given 10 0 (ltb 65535 (length (slots_in mode s (by s))))) (lt-ltb (length buffer) (room_for (sendings_in mode s)) short)
      ∙ then-stays (record { number = 9; place = 0 }) _ refl)
      refl

  module _ (own : OwnPlan mode s (by s)) (ok : Accepted s) (room : room_for (sendings_in mode s) ≤ length buffer) where
    tests-pass : its ≡ accepted
    tests-pass = room-passes mode by s (length buffer) ok room (omega (arith, own.few, sendings-most s ok mode))

    pub is-planned : AnswersIn mode by s buffer (counted_in mode by s) (front buffer (plan_bytes (slots_in mode s (by s))))
    is-planned =
        of-made (whole mode by s (length buffer) accepted)
        (makes mode by s (length buffer) true (ap is_accepted tests-pass) ∙ ap (whole mode by s (length buffer)) tests-pass)

    -- the plan in the buffer is the one that is counted, and the judge passes it
    pub is-passed : judge_in mode s (take (plan_made_in mode by s (length buffer)).answer.bytes (front buffer (plan_made_in mode by s (length buffer)).written))
        ≡ record { outcome = accepted; slots = (plan_made_in mode by s (length buffer)).answer.slots }
    is-passed =
        ap (judge_in mode s)
        (ap₂ take (ap (λ (r : Planned). r.bytes) is-planned.0) is-planned.1
        ∙ take_at (plan_bytes (slots_in mode s (by s))) (drop (length (plan_bytes (slots_in mode s (by s)))) buffer) (length (plan_bytes (slots_in mode s (by s)))) refl)
        ∙ own.passed
        ∙ (λ i. record { outcome = accepted; slots = (sym is-planned.0 i).slots })
