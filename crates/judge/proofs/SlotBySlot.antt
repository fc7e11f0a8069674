-- The judge's loop over slots, as far as slot k: what it has come to is what the definition comes to, and nothing is wrong yet.
use mathlib.Core.Path.{◌≡◌, refl, sym, ap, ◌∙◌}
use mathlib.Core.Bool.{Bool, cond}
use mathlib.Core.List.{List}
use Prim.Native.Nat.{ℕ, ◌+◌, ◌≤◌, ◌<◌}
use native.Mathlib.Omega.{arith}
use borrow.Author.Tests.{eq-eqb, ne_eqb}
use lib.ListN.{length}
use Rattle.meaning.specs.declared.Mode.{Mode}
use Rattle.meaning.specs.declared.Outcome.{Outcome}
use Rattle.meaning.specs.Words.{for_each}
use Rattle.meaning.specs.Answer.{accepted, is_accepted}
use Rattle.meaning.specs.Judge.{Judging, slot_judged, slots_judged}
use Rattle.laws.proofs.Turns.{for_each-one, for_each-stays}
use Rattle.laws.proofs.Moving.{weigh}
use Rattle.judge.specs.SlotTurn.{judging_from, Ready}
use Rattle.judge.proofs.SlotTurn.{turn_inside, turn-long, turn-kept}

-- how far the judge has come, as the code has it
abbrev pub come : Outcome → ℕ → List ℕ → Judging
come outcome at held = record { outcome = outcome; at = at; held = held }

module _ (mode : Mode) (p : ℕ) (parent : ℕ → ℕ) (relation : ℕ → ℕ → Bool) (plan : List ℕ) where
  -- as far as slot k of many, from what was held before the first
  pub record Going (many : ℕ) (held₀ : List ℕ) (k : ℕ) (outcome : Outcome) (at : ℕ) (held : List ℕ) : Type 0 where
    pub within : k ≤ many
    pub reached : come outcome at held ≡ slots_judged mode p parent relation plan k (judging_from 2 held₀)
    pub clean : outcome.number ≡ 0
    pub inside : at ≤ length plan
    pub ready : Ready mode p parent held
    pub total : weigh (λ _. 1) held ≡ weigh (λ _. 1) held₀

  pub going-starts : (many : ℕ) (held : List ℕ) → 2 ≤ length plan → Ready mode p parent held → Going many held 0 accepted 2 held
  unfolding slots_judged for_each
  going-starts many held two ready =
      record { within = omega arith; reached = refl; clean = refl; inside = two; ready = ready; total = refl }

  -- only the place and the packets matter to a turn
  turn-from : (place : ℕ) (outcome : Outcome) (at : ℕ) (held : List ℕ)
      → slot_judged mode p parent relation plan place (judging_from at held) ≡ slot_judged mode p parent relation plan place (come outcome at held)
  unfolding slot_judged
  turn-from place outcome at held = refl

  step : ℕ → Judging → Judging
  step k now = cond (is_accepted now.outcome) (slot_judged mode p parent relation plan (k + 1) now) now

  module _ {many : ℕ} {held₀ : List ℕ} {k : ℕ} {outcome : Outcome} {at : ℕ} {held : List ℕ} (so : Going many held₀ k outcome at held) (h : k < many)
      (outcome' : Outcome) (at' : ℕ) (held' : List ℕ)
      (e : come outcome' at' held' ≡ slot_judged mode p parent relation plan (k + 1) (judging_from at held)) where
    one_more : for_each (k + 1) step (judging_from 2 held₀) ≡ come outcome' at' held'
    unfolding slots_judged step
    one_more =
        for_each-one k step (judging_from 2 held₀)
        ∙ ap (step k) (sym so.reached)
        ∙ ap (λ (b : Bool). cond b (slot_judged mode p parent relation plan (k + 1) (come outcome at held)) (come outcome at held))
        (eq-eqb outcome.number 0 so.clean)
        ∙ sym (turn-from (k + 1) outcome at held)
        ∙ sym e

    -- the slot passes
    pub going_on : outcome'.number ≡ 0 → Going many held₀ (k + 1) outcome' at' held'
    unfolding slots_judged step
    going_on none =
        let now : Judging = judging_from at held in
        let held-is : held' ≡ (slot_judged mode p parent relation plan (k + 1) now).held = ap (λ (j : Judging). j.held) e in
        let at-is : at' ≡ (slot_judged mode p parent relation plan (k + 1) now).at = ap (λ (j : Judging). j.at) e in
        let total : weigh (λ _. 1) held' ≡ weigh (λ _. 1) held = ap (weigh (λ _. 1)) held-is ∙ turn-kept mode p parent relation plan (k + 1) now so.ready in
        record {
          within = omega arith;
          reached = sym one_more;
          clean = none;
          inside = omega (arith, at-is, turn_inside mode p parent relation plan (k + 1) now so.inside);
          ready =
              record {
                few = so.ready.few;
                parents = so.ready.parents;
                long = ap length held-is ∙ turn-long mode p parent relation plan (k + 1) now so.ready.long;
                packets = omega (arith, total, so.ready.packets);
              };
          total = total ∙ so.total;
        }

    -- the slot is refused, and that stays
    pub going-stops : (outcome'.number ≡ 0 → ⊥) → come outcome' at' held' ≡ slots_judged mode p parent relation plan many (judging_from 2 held₀)
    unfolding slots_judged step
    going-stops some =
        sym
        (for_each-stays (k + 1) many step (judging_from 2 held₀) (come outcome' at' held') (omega arith) one_more
        (λ j _ _.
        ap (λ (b : Bool). cond b (slot_judged mode p parent relation plan (j + 1) (come outcome' at' held')) (come outcome' at' held'))
        (ne_eqb outcome'.number 0 some)))

  -- no slot is left
  pub going-ends : {many : ℕ} {held₀ : List ℕ} {k : ℕ} {outcome : Outcome} {at : ℕ} {held : List ℕ} → Going many held₀ k outcome at held → many ≤ k
      → come outcome at held ≡ slots_judged mode p parent relation plan many (judging_from 2 held₀)
  going-ends {many} {held₀} {k} so h =
      let all : k ≡ many = omega (arith, so.within) in
      so.reached ∙ ap (λ (j : ℕ). slots_judged mode p parent relation plan j (judging_from 2 held₀)) all
