-- `slot::slot_at` meets its contract: a place past the end is the end, and any other is within the plan.
use mathlib.Core.Path.{sym}
use Rattle.slot.proofs.Places.{slot-within, slot-past}
use native.Mathlib.Omega.{arith}
use borrow.Author.Rules.{rules}
use Rattle.slot.proofs.slot_at.Goals as goal

pub returns-then-end-at : goal.returns-then-end-at
returns-then-end-at c =
    slot-past c.args.plan.now c.args.at c.if-end-at.true

pub overflow_cast-many : goal.overflow_cast-many
overflow_cast-many c =
    omega (arith, c.type_inv.plan c.args.at)

pub overflow_add-result-4 : goal.overflow_add-result-4
overflow_add-result-4 c =
    omega (arith, c.type_inv.plan c.args.at)

pub returns : goal.returns
returns c =
    sym (slot-within c.args.plan.now c.args.at (search rules))
