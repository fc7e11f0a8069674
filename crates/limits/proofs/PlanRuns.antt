-- The slots of a plan that the judge passes run and bring every packet in. By the judge's turns: each passes a slot that is legal where it stands.
use mathlib.Core.Path.{◌≡◌, refl, sym, ap, ◌∙◌, subst}
use mathlib.Core.Bool.{Bool, true, false, cond}
use mathlib.Core.List.{List, [], ◌∷◌}
use mathlib.Core.Logic.{⊎_elim}
use Prim.Native.Nat.{ℕ, zero, suc, ◌+◌}
use lib.ListN.{length}
use Rattle.meaning.specs.declared.Mode.TheVariants.{Packets}
use Rattle.meaning.specs.Words.{for_each}
use Rattle.meaning.specs.Sheet.{two_at, probe_count, parent_of}
use Rattle.meaning.specs.Conflict.{entry, conflict_table}
use Rattle.meaning.specs.Plan.{senders_at, slots_from, slots_of_plan}
use Rattle.meaning.specs.Rounds.{outside, held_after}
use Rattle.meaning.specs.Answer.{is_accepted, sheet_test}
use Rattle.meaning.specs.Judge.{Judging, slot_judged, slots_judged, plan_judged_by, plan_judged, judge_in, judge}
use Rattle.meaning.specs.Legal.{Legal, RunsIn, Runs, held_first, Arrived}
use Rattle.laws.proofs.Walk.{not-both}
use Rattle.laws.proofs.Accepted.{then-accepted, given-accepted}
use Rattle.laws.proofs.Exact.{passed-legal, runs_append, none-outside}
use Rattle.laws.proofs.Passed.{Passes, Refused, turn}
use Rattle.laws.proofs.Blame.{begins, slots_next, length-slots, judged, stands}

module _ (s : List ℕ) (ok : is_accepted (sheet_test s) ≡ true) (plan : List ℕ) where
  -- the judge after k turns
  abbrev now : ℕ → Judging
  now k = judged Packets (probe_count s) (parent_of s) (entry (conflict_table s)) (held_first s) plan k

  abbrev Next : ℕ → Type 0
  Next k = Passes Packets (probe_count s) (parent_of s) (entry (conflict_table s)) plan (k + 1) (now k)

  -- the slot that it passes next is legal behind those that it has passed
  next-runs : (k : ℕ) → is_accepted (now k).outcome ≡ true → Next k → Runs s (held_first s) (slots_from plan 2 k)
      → Runs s (held_first s) (slots_from plan 2 (suc k))
  unfolding RunsIn
  next-runs k e pass before =
      let stood = stands Packets (probe_count s) (parent_of s) (entry (conflict_table s)) (held_first s) plan k e in
      let here : Legal s (now k).held (senders_at plan (begins plan 2 k)) =
      subst (λ (at : ℕ). Legal s (now k).held (senders_at plan at)) stood.there
      (passed-legal s ok (now k).held (k + 1) (senders_at plan (now k).at) pass.tested) in
      subst (Runs s (held_first s)) (sym (slots_next plan 2 k))
      (runs_append Packets s (held_first s) (slots_from plan 2 k) (senders_at plan (begins plan 2 k) ∷ []) before
      (subst (λ (held : List ℕ). Legal s held (senders_at plan (begins plan 2 k))) stood.holding here, tt))

  all-run : (k : ℕ) → is_accepted (now k).outcome ≡ true → Runs s (held_first s) (slots_from plan 2 k)
  unfolding slots_judged for_each RunsIn slots_from
  all-run zero h = tt
  all-run (suc k) h = go (is_accepted (now k).outcome) refl h (all-run k)
    where
      go : (b : Bool) → is_accepted (now k).outcome ≡ b
          → is_accepted (cond b (slot_judged Packets (probe_count s) (parent_of s) (entry (conflict_table s)) plan (k + 1) (now k)) (now k)).outcome ≡ true
          → (is_accepted (now k).outcome ≡ true → Runs s (held_first s) (slots_from plan 2 k)) → Runs s (held_first s) (slots_from plan 2 (suc k))
      go false e q before = not-both q e
      go true e q before =
          ⊎_elim (λ (pass : Next k). next-runs k e pass (before e))
          (λ (refuses : Refused Packets (probe_count s) (parent_of s) (entry (conflict_table s)) plan (k + 1) (now k)). not-both q refuses.refused)
          (turn Packets (probe_count s) (parent_of s) (entry (conflict_table s)) plan (k + 1) (now k))

-- what the slots of a passed plan do: the sheet is accepted, they run, they bring every packet in, and the judge has counted them
pub record Ran (s plan : List ℕ) : Type 0 where
  pub sheet : is_accepted (sheet_test s) ≡ true
  pub runs : Runs s (held_first s) (slots_of_plan plan)
  pub arrived : Arrived s (held_after (parent_of s) (held_first s) (slots_of_plan plan))
  pub counted : (judge s plan).slots ≡ length (slots_of_plan plan)

pub passed-ran : (s plan : List ℕ) → is_accepted (judge s plan).outcome ≡ true → Ran s plan
unfolding judge_in plan_judged plan_judged_by
passed-ran s plan h =
    let sheet = then-accepted _ _ h in
    let slots = then-accepted _ _ (then-accepted _ _ sheet.1).1 in
    let end : Judging = now s sheet.0 plan (two_at plan 0) in
    let stood = stands Packets (probe_count s) (parent_of s) (entry (conflict_table s)) (held_first s) plan (two_at plan 0) slots.0 in
    record {
      sheet = sheet.0;
      runs = all-run s sheet.0 plan (two_at plan 0) slots.0;
      arrived =
          subst (Arrived s) stood.holding
          (none-outside s end.held (given-accepted 17 (two_at plan 0) (outside (probe_count s) end.held) refl (then-accepted _ _ slots.1).1));
      counted = ap (λ (b : Bool). cond b (two_at plan 0) 0) h ∙ sym (length-slots plan 2 (two_at plan 0));
    }
