-- What is told of a sheet by a planner's answer, whatever is told: one thing of a plan that was made, and another of a refusal. The answer's number says which.
use mathlib.Core.Path.{◌≡◌, sym, ap, ◌∙◌}
use mathlib.Core.Bool.{Bool, true, false, cond}
use mathlib.Core.List.{List}
use mathlib.Core.Logic.{◌≢◌}
use Prim.Native.Nat.{ℕ}
use borrow.Author.Tests.{eq-eqb, ne_eqb}
use lib.ListN.{length, replicate, length-replicate}
use Rattle.meaning.specs.declared.Mode.{Mode}
use Rattle.meaning.specs.declared.Outcome.{Outcome}
use Rattle.meaning.specs.declared.Planned.{Planned}
use Rattle.meaning.specs.Plan.{plan_bytes}
use Rattle.meaning.specs.Rounds.{Way, slots_in}
use Rattle.meaning.specs.Answer.{accepted, is_accepted, sheet_test, refused_plan, PlanMade, plan_made_in}
use Rattle.laws.proofs.PlanMade.{tested, makes, sheet-refuses, planned-sheet}

-- a buffer as it is made
abbrev pub blank : ℕ → List ℕ
blank room = replicate room 0

-- `whole` of a plan, `nothing` of a refusal
abbrev tells : {A : Type 0} → (whole nothing : Planned → A) → Planned → A
tells whole nothing planned = cond (is_accepted planned.outcome) (whole planned) (nothing planned)

module _ (mode : Mode) (by : List ℕ → Way) (s : List ℕ) (room : ℕ) where
  module _ {A : Type 0} (whole nothing : Planned → A) where
    -- what is told of the sheet, for a buffer of so much room
    abbrev pub told : A
    told = tells whole nothing (plan_made_in mode by s room).answer

    -- where the tests pass, `whole` of the plan
    pub told-plan : tested mode by s room ≡ accepted
        → told
        ≡ whole (record {
          outcome = accepted;
          colours = (by s).colours;
          slots = length (slots_in mode s (by s));
          bytes = length (plan_bytes (slots_in mode s (by s)));
        })
    told-plan passed =
        let slots = slots_in mode s (by s) in
        ap (λ (m : PlanMade). tells whole nothing m.answer) (makes mode by s room true (ap is_accepted passed))
        ∙ ap
        (λ (o : Outcome). tells whole nothing (record { outcome = o; colours = (by s).colours; slots = length slots; bytes = length (plan_bytes slots) }))
        passed

    -- of a sheet that is refused, `nothing` by its own number
    pub told-refusal : is_accepted (sheet_test s) ≡ false → told ≡ nothing (refused_plan (sheet_test s))
    told-refusal refused =
        let its = sheet-refuses mode by s room refused in
        ap (λ (m : PlanMade). tells whole nothing m.answer) (makes mode by s room false (ap is_accepted its ∙ refused))
        ∙ ap (λ (o : Outcome). tells whole nothing (refused_plan o)) its
        ∙ ap (λ (b : Bool). cond b (whole (refused_plan (sheet_test s))) (nothing (refused_plan (sheet_test s)))) refused

  -- the planner's answer for a buffer as it is made
  module _ {planned : Planned} (is : planned ≡ (plan_made_in mode by s (length (blank room))).answer) where
    -- a plan is made of an accepted sheet
    pub sheet-passed : planned.outcome.number ≡ 0 → is_accepted (sheet_test s) ≡ true
    sheet-passed passed =
        planned-sheet mode by s (length (blank room)) (ap (λ (p : Planned). is_accepted p.outcome) (sym is) ∙ eq-eqb planned.outcome.number 0 passed)

    module _ {A : Type 0} (whole nothing : Planned → A) where
      by_number : (b : Bool) → is_accepted planned.outcome ≡ b → cond b (whole planned) (nothing planned) ≡ told whole nothing
      by_number b e =
          ap (λ (t : Bool). cond t (whole planned) (nothing planned)) (sym e)
          ∙ ap (tells whole nothing) (is ∙ ap (λ (n : ℕ). (plan_made_in mode by s n).answer) (length-replicate {A = ℕ} room 0))

      pub tells-whole : planned.outcome.number ≡ 0 → whole planned ≡ told whole nothing
      tells-whole passed = by_number true (eq-eqb planned.outcome.number 0 passed)

      pub tells-nothing : planned.outcome.number ≢ 0 → nothing planned ≡ told whole nothing
      tells-nothing refused = by_number false (ne_eqb planned.outcome.number 0 refused)
