-- `branch::most_weight` meets its contract: one top more is one number more of the most.
use Rattle.std.proofs.Common.{◌≡◌, ◌+◌, refl, arith}
use Rattle.meaning.specs.Words.{most}
use Rattle.laws.proofs.Turns.{most-one}
use Rattle.branch.proofs.most_weight.Goals as goal

pub loop-k-init : goal.loop-k-init
unfolding most
loop-k-init g c = λ f told. refl

pub loop-k-preserved : goal.loop-k-preserved
loop-k-preserved g c = λ f told.
    let all = c.loop-k.invariant f told in
    let one = told (c.loop-k.k + 2) c.weight.result c.weight.ensures in
    grind (arith, most-one)

pub returns : goal.returns
returns g c = λ f told.
    let all : c.loop-k.k ≡ c.args.p = omega arith in
    rw all at c.loop-k.invariant f told
