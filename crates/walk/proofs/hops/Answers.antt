-- `walk::hops` meets its contract: one probe more is one summand more.
use Rattle.std.proofs.Common.{◌+◌, refl, sym, ap₂, ◌∙◌, arith}
use Rattle.meaning.specs.Words.{sum}
use Rattle.laws.proofs.Turns.{sum_one}
use Rattle.walk.proofs.hops.Goals as goal

pub loop-k-init : goal.loop-k-init
unfolding sum
loop-k-init c = (refl, omega arith)

pub loop-k-preserved : goal.loop-k-preserved
loop-k-preserved c = (ap₂ ◌+◌ c.loop-k.invariant.0 c.hops_at-hops.ensures.value ∙ sym (sum_one _ _), omega arith)
