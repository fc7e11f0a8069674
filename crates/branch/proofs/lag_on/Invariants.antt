-- `branch::lag_on` meets its contract. The invariant: the lag from here, in the hops that are left, is the whole, and the lag so far is at most the hops
-- walked.
use Rattle.std.proofs.Common.{◌≡◌, ◌-◌, ◌≤◌, get_or}
use Rattle.meaning.specs.Yard.{lag_on}
use Rattle.branch.proofs.lag_on.Given as goal

abbrev pub invariant-loop-hop : goal.invariant-loop-hop
invariant-loop-hop l =
    (lag_on (λ u. get_or l.tree.parents u 0) (λ u. get_or l.tree.packets u 0) l.top (l.tree.probes - l._hop) l.lag l.node
    ≡ lag_on (λ u. get_or l.tree.parents u 0) (λ u. get_or l.tree.packets u 0) l.top l.tree.probes 0 l.initial.node) × (l.lag ≤ l._hop)
