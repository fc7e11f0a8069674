-- `walk::hops` meets its contract. The invariant: the hops so far are the sum over the first k probes, each at most 255 times 255.
use Rattle.std.proofs.Common.{◌≡◌, ◌+◌, ◌*◌, ◌≤◌, get_or}
use Rattle.meaning.specs.Words.{sum}
use Rattle.walk.proofs.hops.Given as goal

abbrev pub invariant-loop-k : goal.invariant-loop-k
invariant-loop-k l = (l.hops ≡ sum l.k (λ i. get_or l.packets (i + 2) 0 * get_or l.levels (i + 2) 0)) × (l.hops ≤ 65025 * l.k)
