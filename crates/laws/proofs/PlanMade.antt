-- What a planner makes, where its tests pass and where they refuse: the definition opened.
use mathlib.Core.Path.{◌≡◌, refl, sym, ap, ◌∙◌}
use mathlib.Core.Bool.{Bool, true, false, cond}
use mathlib.Core.List.{List, []}
use Prim.Native.Nat.{ℕ, ◌≤◌}
use borrow.Author.Tests.{ltb-false, le-ltb}
use lib.Dec.{ltb}
use lib.ListN.{length}
use Rattle.meaning.specs.declared.Mode.{Mode}
use Rattle.meaning.specs.declared.Outcome.{Outcome}
use Rattle.meaning.specs.Plan.{plan_bytes, room_for}
use Rattle.meaning.specs.Rounds.{Way, sendings_in, slots_in}
use Rattle.meaning.specs.Answer.{accepted, is_accepted, sheet_test, plan_test_in, refused_plan, PlanMade, plan_made_in}
use Rattle.laws.proofs.Accepted.{then-goes, then-stays, then-accepted, given-accepted}
use Rattle.laws.proofs.Exact.{passes, gives_none}

module _ (mode : Mode) (by : List ℕ → Way) (s : List ℕ) (room : ℕ) where
  abbrev pub tested : Outcome
  tested = plan_test_in mode s room (slots_in mode s (by s))

  -- what is made where the tests pass, and where they refuse
  abbrev pub whole : Outcome → PlanMade
  whole outcome =
      let slots = slots_in mode s (by s) in
      record {
        answer = record { outcome = outcome; colours = (by s).colours; slots = length slots; bytes = length (plan_bytes slots) };
        written = plan_bytes slots;
      }

  abbrev pub nothing : Outcome → PlanMade
  nothing outcome = record { answer = refused_plan outcome; written = [] }

  pub makes : (b : Bool) → is_accepted tested ≡ b → plan_made_in mode by s room ≡ cond b (whole tested) (nothing tested)
  unfolding plan_made_in
  makes b e = ap (λ (t : Bool). cond t (whole tested) (nothing tested)) e

  pub made-outcome : (plan_made_in mode by s room).answer.outcome ≡ tested
  unfolding plan_made_in
  made-outcome = go (is_accepted tested)
    where
      go : (b : Bool) → (cond b (whole tested) (nothing tested)).answer.outcome ≡ tested
      go true = refl
      go false = refl

  -- a sheet that is refused is refused by its own number
  pub sheet-refuses : is_accepted (sheet_test s) ≡ false → tested ≡ sheet_test s
  unfolding plan_test_in
  sheet-refuses refused = then-stays (sheet_test s) _ refused

  -- an accepted sheet with room for its sendings, and no more slots than two bytes say
  pub room-passes : is_accepted (sheet_test s) ≡ true → room_for (sendings_in mode s) ≤ room → length (slots_in mode s (by s)) ≤ 65535 → tested ≡ accepted
  unfolding plan_test_in
  room-passes ok enough few =
      then-goes (sheet_test s) _ ok
      ∙ passes 9 0 _ _ (le-ltb room (room_for (sendings_in mode s)) enough)
      ∙ gives_none 10 0 _ (le-ltb 65535 (length (slots_in mode s (by s))) few)

  -- where a plan is made, its tests passed
  module _ (planned : is_accepted (plan_made_in mode by s room).answer.outcome ≡ true) where
    pub tests-accept : is_accepted tested ≡ true
    tests-accept = ap is_accepted (sym made-outcome) ∙ planned

    pub planned-sheet : is_accepted (sheet_test s) ≡ true
    unfolding plan_test_in
    planned-sheet = (then-accepted (sheet_test s) _ tests-accept).0

    pub planned-room : room_for (sendings_in mode s) ≤ room
    unfolding plan_test_in
    planned-room =
        ltb-false room (room_for (sendings_in mode s))
        (given-accepted 9 0 (ltb room (room_for (sendings_in mode s))) refl (then-accepted _ _ (then-accepted (sheet_test s) _ tests-accept).1).0)
