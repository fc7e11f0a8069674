-- `branch::slowest` meets its contract: what is weighed is the branch's packets and its lag.
use Rattle.std.proofs.Common.{◌+◌, rules}
use Rattle.meaning.specs.Words.{by_node}
use Rattle.meaning.specs.Yard.{branch_packets, branch_lag}
use Rattle.branch.proofs.slowest.Goals as goal

pub returns : goal.returns
returns c =
    let t = c.args.tree.now in
    let parent = by_node t.parents in
    let packets = by_node t.packets in
    c.most_weight.ensures (λ top. branch_packets t.probes parent packets top + branch_lag t.probes parent packets top) (λ top r gave. search rules)
