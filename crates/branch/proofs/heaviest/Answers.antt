-- `branch::heaviest` meets its contract: what is weighed is the branch's packets.
use Rattle.std.proofs.Common.{rules}
use Rattle.meaning.specs.Words.{by_node}
use Rattle.meaning.specs.Yard.{branch_packets}
use Rattle.branch.proofs.heaviest.Goals as goal

pub returns : goal.returns
returns c =
    let t = c.args.tree.now in
    c.most_weight.ensures (branch_packets t.probes (by_node t.parents) (by_node t.packets)) (λ top r gave. search rules)
