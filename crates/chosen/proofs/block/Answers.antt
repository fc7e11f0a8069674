-- `chosen::block` meets its contract: before place i the flags are joined, behind it they stand as they came.
use mathlib.Core.Path.{ap}
use mathlib.Core.Bool.{false, ◌||◌}
use lib.ListN.{get_or}
use native.Mathlib.Omega.{arith}
use Rattle.laws.proofs.Lists.{becoming-start, next_place, becoming-next, becoming-whole}
use Rattle.chosen.proofs.block.Goals as goal

pub loop-i-init : goal.loop-i-init
loop-i-init c =
    becoming-start 65 _ _ c.told-blocked

pub loop-i-preserved : goal.loop-i-preserved
loop-i-preserved c =
    let l = c.loop-i in
    becoming-next 65 l.i _ _ l.blocked _ l.invariant (omega arith)
    (ap (λ b. b || get_or c.args.row.now l.i false) (next_place 65 l.i _ _ l.blocked false l.invariant))

pub returns : goal.returns
returns c =
    becoming-whole 65 _ _ _ c.loop-i.invariant (omega arith)
