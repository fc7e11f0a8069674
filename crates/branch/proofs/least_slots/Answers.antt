-- `branch::least_slots` meets its contract: what is weighed is what a top hears and sends, and all packets may be more.
use Rattle.std.proofs.Common.{rules}
use Rattle.meaning.specs.Words.{by_node}
use Rattle.meaning.specs.Yard.{hears_and_sends}
use Rattle.branch.proofs.least_slots.Goals as goal

pub returns : goal.returns
returns c =
    let t = c.args.tree.now in
    let most = c.most_weight-most.ensures (hears_and_sends t.probes (by_node t.parents) (by_node t.packets)) (λ top r gave. search rules) in
    cc
