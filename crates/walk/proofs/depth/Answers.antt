-- `walk::depth` meets its contract: one probe more is one number more of the most.
use Rattle.std.proofs.Common.{refl, arith}
use Rattle.meaning.specs.Words.{most}
use Rattle.laws.proofs.Turns.{most-one}
use Rattle.walk.proofs.depth.Goals as goal

pub loop-k-init : goal.loop-k-init
unfolding most
loop-k-init c = refl

pub loop-k-preserved : goal.loop-k-preserved
loop-k-preserved c = grind (arith, most-one)
