-- `judge::slot_judged` meets its contract: the part lent from the middle of the plan is the slot, and a slot that passed has senders that may send.
use mathlib.Core.Path.{refl, ap}
use mathlib.Core.Logic.{inl}
use native.Mathlib.Omega.{arith}
use Rattle.meaning.specs.Returned.{Tested}
use Rattle.meaning.specs.Words.{by_node}
use Rattle.std.proofs.lemmas.Result.{err_from_is_err_and}
use Rattle.laws.proofs.Refused.{some-number}
use Rattle.slot.proofs.Places.{part-read}
use Rattle.judge.proofs.SlotTurn.{turn-short, turn-refused, turn-passed, outcome-tested, names-tested, names-passed, names-unnamed}
use Rattle.judge.proofs.Yard.slot_judged.Goals as goal

pub returns-then-plan-next : goal.returns-then-plan-next
returns-then-plan-next c =
    let is = c.unnamed.ensures in
    record {
      answer = turn-short _ _ _ c.slot_at-here.ensures c.requires.inside _ _ _ _ _ _ _ (ap (λ (t : Tested). t.outcome) is) c.if-plan-next.true;
      names = names-unnamed _ _ _ _ _ _ _ is (inl (omega arith));
    }

pub slice_bounds-slot-start : goal.slice_bounds-slot-start
slice_bounds-slot-start c = part-read _ _ _ c.slot_at-here.ensures c.requires.inside

pub slice_bounds-slot-count : goal.slice_bounds-slot-count
slice_bounds-slot-count c = part-read _ _ _ c.slot_at-here.ensures c.requires.inside

pub returns-in_err-tested : goal.returns-in_err-tested
returns-in_err-tested c =
    let a = c.args in
    let here = c.slot_at-here.ensures in
    let inside = c.requires.inside in
    let ready = c.requires.ready in
    let is = c.in_err-tested.ensures in
    let e = err_from_is_err_and c.from_residual.result c.from_residual.ensures.1 in
    record {
      answer =
          rw (e.1, e.2)
          (turn-refused _ _ _ here inside _ _ _ _ _ _ _ c.if-plan-next.false ready
          (outcome-tested _ _ _ here inside a.self.mode _ (by_node a.self.parents.now) ready.few _ _ _ _ is) (some-number c.in_err-tested.field-0.0.refusal));
      names = rw (e.1, e.2) (names-tested _ _ _ here inside a.self.mode _ (by_node a.self.parents.now) ready.few _ _ _ _ is);
    }

pub returns : goal.returns
returns c =
    let a = c.args in
    let here = c.slot_at-here.ensures in
    let inside = c.requires.inside in
    let ready = c.requires.ready in
    let is = c.in_ok-tested.ensures in
    record {
      answer =
          turn-passed _ _ _ here inside _ _ _ _ _ _ _ c.if-plan-next.false ready
          (outcome-tested _ _ _ here inside a.self.mode _ (by_node a.self.parents.now) ready.few _ _ _ _ is) refl _ c.send.ensures;
      names = names-passed _ _ _ here inside a.self.mode _ (by_node a.self.parents.now) ready.few _ _ _ _ is refl _ _;
    }
