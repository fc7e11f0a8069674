-- `walk::depth` meets its contract. The invariant: the deepest level so far is the most of the first k probes.
use Rattle.std.proofs.Common.{◌≡◌, ◌+◌, get_or}
use Rattle.meaning.specs.Words.{most}
use Rattle.walk.proofs.depth.Given as goal

abbrev pub invariant-loop-k : goal.invariant-loop-k
invariant-loop-k l = l.deepest ≡ most l.k (λ i. get_or l.levels (i + 2) 0)
