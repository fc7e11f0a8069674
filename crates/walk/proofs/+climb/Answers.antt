-- `walk::climb` meets its contract: each answer is a law of one hop.
use native.Mathlib.Omega.{arith}
use Rattle.walk.proofs.Climbing.{climbed-here, climbed-none, climbed-on, climbed-most}
use Rattle.walk.proofs.+climb.Goals as goal

pub returns-then-node-eq1 : goal.returns-then-node-eq1
returns-then-node-eq1 t c = climbed-here _ _ _ c.if-node-eq1.true

pub returns-then-left-eq0 : goal.returns-then-left-eq0
returns-then-left-eq0 t c = climbed-none _ _ _ c.if-node-eq1.false c.if-left-eq0.true

pub overflow_add-result : goal.overflow_add-result
overflow_add-result t c = omega (arith, climbed-most _ _ _ _ _ c.climb.ensures c.in_ok-level.was)

pub returns : goal.returns
returns t c = climbed-on _ _ _ _ _ _ c.if-node-eq1.false c.if-left-eq0.false c.number_at-parent.ensures c.climb.ensures c.in_ok-level.was

pub returns-in_err-level : goal.returns-in_err-level
returns-in_err-level t c = cc (climbed-on _ _ _ _ _ _ c.if-node-eq1.false c.if-left-eq0.false c.number_at-parent.ensures c.climb.ensures c.in_err-level.was)
