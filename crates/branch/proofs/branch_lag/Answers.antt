-- `branch::branch_lag` meets its contract: one probe more is one number more of the most.
use Rattle.std.proofs.Common.{◌≡◌, refl, arith}
use Rattle.meaning.specs.Words.{most}
use Rattle.laws.proofs.Turns.{most-one}
use Rattle.branch.proofs.branch_lag.Goals as goal

pub loop-k-init : goal.loop-k-init
unfolding most
loop-k-init c = (refl, omega arith)

pub loop-k-preserved : goal.loop-k-preserved
loop-k-preserved c = (grind (arith, most-one), omega arith)

pub returns : goal.returns
returns c =
    let done = c.loop-k in
    let all : done.k ≡ c.args.tree.now.probes = omega arith in
    rw all at done.invariant
