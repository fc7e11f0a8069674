-- `branch::all_packets` meets its contract. The invariant: so far it is the sum over the first k probes, each at most 255.
use Rattle.std.proofs.Common.{◌≡◌, ◌+◌, ◌*◌, ◌≤◌, get_or}
use Rattle.meaning.specs.Words.{sum}
use Rattle.branch.proofs.all_packets.Given as goal

abbrev pub invariant-loop-k : goal.invariant-loop-k
invariant-loop-k l = (l.all ≡ sum l.k (λ i. get_or l.tree.packets (i + 2) 0)) × (l.all ≤ 255 * l.k)
