-- `telephone::ask` meets its contract: a refusal is the planner's, and what is counted in the tree is what the sheet says.
use mathlib.Core.Path.{refl}
use native.Mathlib.Omega.{arith}
use Rattle.std.proofs.lemmas.Result.{err_from_is_err_and}
use Rattle.laws.proofs.Refused.{some-number, not-refused}
use Rattle.telephone.proofs.Telephoned.{ok, ask-refused, most-fits, ask-planned}
use Rattle.telephone.proofs.ask.Goals as goal

pub returns-in_err-plan : goal.returns-in_err-plan
returns-in_err-plan c =
    let e = err_from_is_err_and c.from_residual.result c.from_residual.ensures.1 in
    rw (e.1, e.2) (ask-refused c.args.sheet.now c.in_err-plan.ensures.answer (some-number c.in_err-plan.field-0.0))

-- the sheet of a plan is accepted
pub returns-in_err-tree : goal.returns-in_err-tree
returns-in_err-tree c = absurd (not-refused c.in_err-tree.field-0.0 c.in_err-tree.ensures (ok c.args.sheet.now c.in_ok-plan.ensures.answer refl))

pub overflow_cast-most : goal.overflow_cast-most
overflow_cast-most c =
    omega (arith, most-fits c.args.sheet.now c.in_ok-plan.ensures.answer refl c.in_ok-tree.ensures.1 _ c.at_most-most.ensures)

pub returns : goal.returns
returns c =
    ask-planned c.args.sheet.now c.in_ok-plan.ensures.answer refl c.in_ok-tree.ensures.1
    c.least_slots-least.ensures c.slowest-slowest.ensures c.at_most-most.ensures c.times_any-times.ensures
