-- `branch::lag_brought` meets its contract: it goes by whether the walk comes to the top.
use mathlib.Core.Path.{refl}
use Rattle.branch.proofs.Walking.{brings, brings-none}
use Rattle.branch.proofs.lag_brought.Goals as goal

pub returns-then-not-comes_to : goal.returns-then-not-comes_to
returns-then-not-comes_to c =
    brings-none _ _ _ _ _ c.if-not-comes_to.true c.comes_to.ensures refl

pub returns : goal.returns
returns c =
    brings _ _ _ _ _ c.if-not-comes_to.false c.comes_to.ensures c.lag_on.ensures
