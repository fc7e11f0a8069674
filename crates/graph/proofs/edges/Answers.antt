-- `graph::edges` meets its contract. The loop's invariant: the edges of the rows before x are counted.
use mathlib.Core.Path.{◌≡◌, refl, sym, ap₂, ◌∙◌}
use Prim.Native.Nat.{◌+◌}
use Rattle.meaning.specs.Words.{sum}
use Rattle.laws.proofs.Turns.{sum_one}
use Rattle.graph.specs.Table.{edges}
use native.Mathlib.Omega.{arith}
use Rattle.graph.proofs.edges.Goals as goal

pub loop-x-init : goal.loop-x-init
unfolding sum
loop-x-init c = (omega arith, refl)

pub loop-x-preserved : goal.loop-x-preserved
loop-x-preserved c =
    (omega arith, ap₂ ◌+◌ c.loop-x.invariant.1 c.edges_of-n.ensures.count ∙ sym (sum_one _ _))

pub returns : goal.returns
unfolding edges
returns c =
    let full : c.loop-x.x ≡ 65 = omega arith in
    rw full at c.loop-x.invariant.1
