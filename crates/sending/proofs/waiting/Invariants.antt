-- `sending::waiting` meets its contract. The invariant: who waits for one of the first k probes is flagged.
use Rattle.std.proofs.Common.{◌≡◌}
use Rattle.meaning.specs.Words.{tab, places, by_node}
use Rattle.meaning.specs.Rounds.{waits}
use Rattle.sending.proofs.waiting.Given as goal

abbrev pub invariant-loop-k : goal.invariant-loop-k
invariant-loop-k l = l.flags ≡ tab places (waits l.k (by_node l.parents) l.held)
