-- `branch::branch` meets its contract. The invariant: so far it is the sum over the first k probes, each at most 255.
use Rattle.std.proofs.Common.{◌≡◌, cond, ◌+◌, ◌*◌, ◌≤◌, get_or}
use Rattle.meaning.specs.Words.{sum}
use Rattle.meaning.specs.Yard.{reaches}
use Rattle.branch.proofs.branch.Given as goal

abbrev pub invariant-loop-k : goal.invariant-loop-k
invariant-loop-k l =
    (l.all ≡ sum l.k (λ i. cond (reaches (λ u. get_or l.tree.parents u 0) l.top l.tree.probes (i + 2)) (get_or l.tree.packets (i + 2) 0) 0)) × (l.all ≤ 255 * l.k)
