-- `sheet::by_node` meets its contract: the table is filled from the front, as far as node v.
use native.Mathlib.Omega.{arith}
use mathlib.Core.Path.{◌≡◌, refl}
use Prim.Native.Nat.{◌<◌}
use lib.ListN.{length, length-set}
use Rattle.meaning.specs.Words.{tab}
use Rattle.laws.proofs.Turns.{tab-next, tab-full}
use Rattle.sheet.proofs.by_node.Goals as goal

pub loop-v-init : goal.loop-v-init
unfolding tab
loop-v-init c =
    (omega arith, (refl, refl))

pub loop-v-preserved : goal.loop-v-preserved
loop-v-preserved c =
    let inside : c.loop-v.v < length c.loop-v.table = omega arith in
    (omega arith, (simp length-set (omega arith), tab-next _ _ _ _ inside c.loop-v.invariant.1.1 c.record_byte.ensures))

pub returns : goal.returns
returns c =
    let all : c.loop-v.v ≡ 65 = omega arith in
    tab-full _ _ _ c.loop-v.invariant.1.0 (rw all at c.loop-v.invariant.1.1)
