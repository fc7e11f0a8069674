-- `draw::put_edges` meets its contract. The invariant: the rows before x are put.
use mathlib.Core.Path.{refl}
use Rattle.graph.proofs.TextsPut.{texts-start, texts-next, texts-all}
use native.Mathlib.Omega.{arith}
use borrow.Author.Rules.{rules}
use Rattle.draw.proofs.put_edges.Goals as goal

pub loop-x-init : goal.loop-x-init
loop-x-init c =
    (refl, texts-start _ _ _)

pub loop-x-preserved : goal.loop-x-preserved
loop-x-preserved c =
    let turn = c.loop-x in
    (search rules, texts-next turn.x _ turn.invariant.1 c.put_row-end.ensures)

pub returns : goal.returns
returns c =
    let done = c.loop-x in
    texts-all _ (omega arith) done.invariant.1
