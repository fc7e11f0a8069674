-- `judge::plan_judged_by` meets its contract: the slots decide and name, then 16, then 17, which name nobody.
use mathlib.Core.Path.{◌≡◌, refl, sym, ap, ap₂, ◌∙◌}
use mathlib.Core.List.{List}
use Prim.Native.Nat.{ℕ}
use mathlib.Core.Logic.{inl, inr}
use native.Mathlib.Omega.{arith}
use Rattle.std.proofs.lemmas.Result.{err_from_is_err_and}
use Rattle.meaning.specs.declared.Outcome.{Outcome}
use Rattle.meaning.specs.Returned.{Tested}
use Rattle.meaning.specs.Words.{by_node}
use Rattle.meaning.specs.Conflict.{entry}
use Rattle.meaning.specs.Judge.{Judging, slots_judged, names_at}
use Rattle.meaning.specs.Results.{outcome_of}
use Rattle.laws.proofs.Refused.{some-number}
use Rattle.judge.specs.SlotTurn.{judging_from}
use Rattle.judge.proofs.SlotBySlot.{come}
use Rattle.judge.proofs.Judging.{slots-decide, slots-name, gives-16, gives-17, gives-0, unnamed-plan}
use Rattle.judge.proofs.Yard.plan_judged_by.Goals as goal

pub returns-in_err-end : goal.returns-in_err-end
returns-in_err-end c =
    let a = c.args in
    let many = c.slot_count-many.ensures.answer in
    let blame = c.in_err-end.field-0.0 in
    let judged = c.in_err-end.ensures in
    let end : Judging =
    slots_judged a.self.mode a.self.probes (by_node a.self.parents.now) (entry a.self.table.now) a.plan.now c.slot_count-many.result (judging_from 2 a.first) in
    let is : come (outcome_of blame.refusal) end.at c.slots_judged.new.held ≡ end =
    ap₂ (λ (o : Outcome) (held : List ℕ). come o end.at held) judged.0 judged.1.0 in
    let e = err_from_is_err_and c.from_residual.result c.from_residual.ensures.1 in
    record {
      answer = rw (e.1, e.2) (slots-decide _ _ _ _ _ _ _ many _ _ _ is (some-number blame.refusal));
      names =
          rw (e.1, e.2)
          (slots-name _ _ _ _ _ _ _ many _ _ _ is _ _
          (judged.1.1
          ∙ ap (λ (j : Judging). names_at a.self.mode a.self.probes (by_node a.self.parents.now) (entry a.self.table.now) a.plan.now j j.outcome.number) (sym is)));
    }

pub returns-then-end-plan : goal.returns-then-end-plan
returns-then-end-plan c =
    let many = c.slot_count-many.ensures.answer in
    let is = c.unnamed.ensures in
    record {
      answer =
          gives-16 _ _ _ _ _ _ _ many _ _ _ c.in_ok-end.ensures refl _ (ap (λ (t : Tested). t.outcome) is)
          c.if-end-plan.true;
      names = unnamed-plan _ _ _ _ _ _ _ _ _ is (inr (omega arith));
    }

pub returns-then-any_outside : goal.returns-then-any_outside
returns-then-any_outside c =
    let many = c.slot_count-many.ensures.answer in
    let is = c.unnamed-then-any_outside.ensures in
    record {
      answer =
          gives-17 _ _ _ _ _ _ _ many _ _ _ c.in_ok-end.ensures refl c.requires.ready.few c.if-end-plan.false _
          c.any_outside.ensures _ (ap (λ (t : Tested). t.outcome) is) c.if-any_outside.true;
      names = unnamed-plan _ _ _ _ _ _ _ _ _ is (inr (omega arith));
    }

pub returns : goal.returns
returns c =
    let many = c.slot_count-many.ensures.answer in
    record {
      answer =
          gives-0 _ _ _ _ _ _ _ many _ _ _ c.in_ok-end.ensures refl c.requires.ready.few c.if-end-plan.false _
          c.any_outside.ensures _ refl c.if-any_outside.false;
      names = unnamed-plan _ _ _ _ _ _ _ 0 0 refl (inl (omega arith));
    }
