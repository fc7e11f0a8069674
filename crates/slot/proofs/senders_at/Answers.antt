-- `slot::senders_at` meets its contract: one law for each place that it returns from.
use Rattle.slot.proofs.Places.{senders-past, senders-short, senders-whole}
use native.Mathlib.Omega.{arith}
use Rattle.slot.proofs.senders_at.Goals as goal

pub returns-then-end-at : goal.returns-then-end-at
returns-then-end-at c =
    senders-past c.args.plan.now c.args.at c.if-end-at.true

pub overflow_cast-next : goal.overflow_cast-next
overflow_cast-next c =
    omega (arith, c.type_inv.plan c.args.at)

pub overflow_add-next : goal.overflow_add-next
overflow_add-next c =
    omega (arith, c.type_inv.plan c.args.at)

pub returns-then-end-next : goal.returns-then-end-next
returns-then-end-next c =
    let a = c.args in
    senders-short a.plan.now a.at c.if-end-next.true

pub returns : goal.returns
returns c =
    let a = c.args in
    senders-whole a.plan.now a.at
