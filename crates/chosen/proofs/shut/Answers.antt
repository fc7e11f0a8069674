-- `chosen::shut` meets its contract: before place i those in conflict are shut, behind it the flags stand as they came.
use mathlib.Core.Path.{ap}
use mathlib.Core.Bool.{Bool, false, not, ◌&&◌, ◌||◌}
use lib.ListN.{get_or}
use native.Mathlib.Omega.{arith}
use Rattle.laws.proofs.Lists.{becoming-start, next_place, becoming-next, becoming-whole}
use Rattle.chosen.proofs.shut.Goals as goal

pub loop-i-init : goal.loop-i-init
loop-i-init c =
    becoming-start 65 _ _ c.told-free

pub loop-i-preserved : goal.loop-i-preserved
loop-i-preserved c =
    let a = c.args in
    let l = c.loop-i in
    becoming-next 65 l.i _ _ l.free _ l.invariant (omega arith)
    (ap (λ (b : Bool). get_or a.owners.now l.i false || b && not (get_or a.row.now l.i false)) (next_place 65 l.i _ _ l.free false l.invariant))

pub returns : goal.returns
returns c =
    becoming-whole 65 _ _ _ c.loop-i.invariant (omega arith)
