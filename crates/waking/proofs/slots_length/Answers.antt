-- `waking::slots_length` meets its contract. The invariant: the bytes of the first i slots are counted.
use mathlib.Core.Path.{sym, ap}
use lib.ListN.{length}
use Rattle.waking.proofs.WakeWords.{slot_of, none_said, slots-few, count_none, count_next, count-all}
use native.Mathlib.Omega.{arith}
use Rattle.waking.proofs.slots_length.Goals as goal

pub returns-then-many-eq0 : goal.returns-then-many-eq0
returns-then-many-eq0 c =
    let a = c.args in
    count_none (slot_of a.entry.now a.at) _ _ c.two_at-many.ensures c.if-many-eq0.true

pub loop-i-init : goal.loop-i-init
loop-i-init c =
    let a = c.args in
    sym (ap length (none_said (slot_of a.entry.now a.at)))

pub overflow_add-all-in-loop-i : goal.overflow_add-all-in-loop-i
overflow_add-all-in-loop-i c =
    let turn = c.loop-i in
    let a = c.args in
    omega (arith, turn.invariant, slots-few (slot_of a.entry.now a.at) turn.i, c.digits.ensures.few)

pub loop-i-preserved : goal.loop-i-preserved
loop-i-preserved c =
    let turn = c.loop-i in
    let a = c.args in
    count_next (slot_of a.entry.now a.at) turn.i _ _ _ c.two_at-slot.ensures c.digits.ensures.count turn.invariant

pub returns : goal.returns
returns c =
    let done = c.loop-i in
    let many = c in
    let a = many.args in
    count-all (slot_of a.entry.now a.at) _ _ many.two_at-many.ensures done.i _ many.if-many-eq0.false (omega arith) (omega arith) done.invariant
