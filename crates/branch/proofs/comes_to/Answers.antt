-- `branch::comes_to` meets its contract: each way out ends the walk of the invariant, and a turn is one hop of it.
use Rattle.std.proofs.Common.{◌+◌, ◌-◌, sym, ◌∙◌, arith}
use Rattle.laws.proofs.Walk.{reaches_here}
use Rattle.branch.proofs.Walking.{comes-last, comes-on, stays}
use Rattle.branch.proofs.comes_to.Goals as goal

pub returns-then-node-top : goal.returns-then-node-top
returns-then-node-top c =
    let turn = c.loop-hop in
    sym (reaches_here _ _ (c.args.tree.now.probes - turn._hop) turn.node c.if-node-top.true) ∙ turn.invariant

pub returns-then-next-node : goal.returns-then-next-node
returns-then-next-node c =
    let turn = c.loop-hop in
    stays _ _ (c.args.tree.now.probes - turn._hop) turn.node _ _ c.if-node-top.false c.number_at-next.ensures c.if-next-node.true turn.invariant

pub loop-hop-preserved : goal.loop-hop-preserved
loop-hop-preserved c =
    let turn = c.loop-hop in
    let hops = c.args.tree.now.probes in
    comes-on _ _ (hops - turn._hop) (hops - (turn._hop + 1)) turn.node _ _ (omega arith) c.if-node-top.false c.number_at-next.ensures turn.invariant

pub returns : goal.returns
returns c =
    let turn = c.loop-hop in
    comes-last _ _ (c.args.tree.now.probes - turn._hop) turn.node _ (omega arith) turn.invariant
