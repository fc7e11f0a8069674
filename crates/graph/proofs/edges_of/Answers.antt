-- `graph::edges_of` meets its contract. The loop's invariant: those before y are counted.
use mathlib.Core.Path.{◌≡◌, refl, sym, ap₂, ◌∙◌}
use mathlib.Core.Bool.{false, ◌&&◌}
use Prim.Native.Nat.{◌+◌}
use lib.Dec.{ltb}
use lib.ListN.{get_or}
use Rattle.meaning.specs.Words.{sum}
use Rattle.laws.proofs.Turns.{sum_one}
use Rattle.graph.specs.Table.{edges_of}
use Rattle.graph.proofs.Flags.{flag}
use native.Mathlib.Omega.{arith}
use Rattle.graph.proofs.edges_of.Goals as goal

pub loop-y-init : goal.loop-y-init
unfolding sum
loop-y-init c = (omega arith, refl)

pub loop-y-preserved : goal.loop-y-preserved
loop-y-preserved c =
    let turn = c.loop-y in
    let one = flag (ltb c.args.x turn.y && get_or c.args.row.now turn.y false) in
    (omega (arith, c.from-n.ensures, one.1), ap₂ ◌+◌ turn.invariant.1 (c.from-n.ensures ∙ one.0) ∙ sym (sum_one _ _))

pub returns-clause-count : goal.returns-clause-count
unfolding edges_of
returns-clause-count c =
    let full : c.loop-y.y ≡ 65 = omega arith in
    rw full at c.loop-y.invariant.1
