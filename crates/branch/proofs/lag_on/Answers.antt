-- `branch::lag_on` meets its contract: each way out ends the walk of the invariant, and a turn is one hop of it.
use Rattle.std.proofs.Common.{◌+◌, ◌-◌, sym, ◌∙◌, arith}
use Rattle.laws.proofs.Walk.{lag-here}
use Rattle.branch.proofs.Walking.{lag-last, lag-next}
use Rattle.branch.proofs.lag_on.Goals as goal

pub returns-then-node-top : goal.returns-then-node-top
returns-then-node-top c =
    let turn = c.loop-hop in
    sym (lag-here _ _ _ (c.args.tree.now.probes - turn._hop) turn.lag turn.node c.if-node-top.true) ∙ turn.invariant.0

pub loop-hop-preserved : goal.loop-hop-preserved
loop-hop-preserved c =
    let turn = c.loop-hop in
    let hops = c.args.tree.now.probes in (
      lag-next _ _ _ (hops - turn._hop) (hops - (turn._hop + 1)) turn.lag turn.node _ _ _ _ (omega arith) c.if-node-top.false c.number_at-node.ensures
          c.number_at.ensures c.saturating_sub-lag.ensures turn.invariant.0,
      omega arith,
    )

pub returns : goal.returns
returns c =
    let turn = c.loop-hop in
    lag-last _ _ _ (c.args.tree.now.probes - turn._hop) turn.lag turn.node _ (omega arith) turn.invariant.0
