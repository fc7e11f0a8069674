-- `sheet::walks_test` meets its contract: the laws of the walks.
use native.Mathlib.Omega.{arith}
use Rattle.sheet.proofs.AllWalks.{walks-start, walks_next, walks-stray, walks-end}
use Rattle.sheet.proofs.walks_test.Goals as goal

pub loop-k-init : goal.loop-k-init
loop-k-init c = walks-start _ _

pub returns-in_default : goal.returns-in_default
returns-in_default c =
    walks-stray _ _ _ _ c.loop-k.invariant c.loop-k-test.true _ c.climb.ensures c.in_default.is _ c.strayed.ensures

pub loop-k-preserved : goal.loop-k-preserved
loop-k-preserved c =
    walks_next _ _ _ _ c.loop-k.invariant c.loop-k-test.true c.requires _ _ c.climb.ensures c.in-Some.is

pub returns : goal.returns
returns c = walks-end _ _ _ _ c.loop-k.invariant (omega arith)
