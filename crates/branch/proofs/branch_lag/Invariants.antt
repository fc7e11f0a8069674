-- `branch::branch_lag` meets its contract. The invariant: so far it is the most over the first k probes, each at most 255.
use Rattle.std.proofs.Common.{◌≡◌, cond, ◌+◌, ◌≤◌, get_or}
use Rattle.meaning.specs.Words.{most}
use Rattle.meaning.specs.Yard.{reaches, lag_on}
use Rattle.branch.proofs.branch_lag.Given as goal

abbrev pub invariant-loop-k : goal.invariant-loop-k
invariant-loop-k l =
    (l.most ≡ most l.k (λ i. cond (reaches (λ u. get_or l.tree.parents u 0) l.top l.tree.probes (i + 2)) (lag_on (λ u. get_or l.tree.parents u 0) (λ u. get_or l.tree.packets u 0) l.top l.tree.probes 0 (i + 2)) 0))
    × (l.most ≤ 255)
