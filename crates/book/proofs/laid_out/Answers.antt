-- `book::laid_out` meets its contract. The invariant: the lists of the first k probes have their places.
use Rattle.std.proofs.Common.{arith}
use Rattle.meaning.specs.Words.{by_node}
use Rattle.book.proofs.LayingOut.{laid-start, laid-more, laid-all, laid-sends, laid-hears}
use Rattle.book.proofs.laid_out.Goals as goal

pub loop-k-init : goal.loop-k-init
loop-k-init c = laid-start _ _ _ _

pub loop-k-preserved : goal.loop-k-preserved
loop-k-preserved c =
    let a = c.args in
    let turn = c.loop-k in
    laid-more a.tree.now.probes (by_node a.tree.now.parents) (by_node a.tree.now.packets) a.end turn.k turn.lists turn.at c.in_branch-sendings.result
    c.hearings.result turn.invariant c.loop-k-test.true c.requires (omega arith)
    c.in_branch-sendings.ensures c.hearings.ensures

pub returns : goal.returns
returns c =
    let a = c.args in
    let done = c.loop-k in
    let all = laid-all a.tree.now.probes (by_node a.tree.now.parents) (by_node a.tree.now.packets) a.end done.k _ _ done.at done.invariant c.loop-k-test.false in
    record { lists = (laid-sends _ _ _ _ _ _ _ all, laid-hears _ _ _ _ _ _ _ all); bytes = all.next }
