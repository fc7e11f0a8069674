-- `branch::comes_to` meets its contract. The invariant: the walk from here, in the hops that are left, answers the whole.
use Rattle.std.proofs.Common.{◌≡◌, ◌-◌, get_or}
use Rattle.meaning.specs.Yard.{reaches}
use Rattle.branch.proofs.comes_to.Given as goal

abbrev pub invariant-loop-hop : goal.invariant-loop-hop
invariant-loop-hop l = reaches (λ u. get_or l.tree.parents u 0) l.top (l.tree.probes - l._hop) l.node ≡ reaches (λ u. get_or l.tree.parents u 0) l.top l.tree.probes l.initial.node
