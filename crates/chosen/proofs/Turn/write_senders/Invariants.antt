-- `chosen::Turn::write_senders` meets its contract: the first k probes have had their turn, and the senders among them stand behind the count.
use mathlib.Core.Path.{◌≡◌}
use mathlib.Core.Bool.{false}
use Prim.Native.Nat.{◌-◌}
use lib.ListN.{get_or}
use Rattle.meaning.specs.Conflict.{entry}
use Rattle.meaning.specs.Rounds.{holds, joined}
use Rattle.chosen.proofs.Free.{free_by}
use Rattle.chosen.proofs.Writing.{Writing}
use Rattle.chosen.proofs.Turn.write_senders.Given as goal

abbrev pub invariant-loop-j : goal.invariant-loop-j
invariant-loop-j l = Writing (λ v. get_or (joined l.self.probes (entry l.self.table.now) (holds l.self.held.now) l.owners) v false) l.self.probes l.initial.rest l.rest l.n l.k × (l.free ≡ free_by (entry l.self.table.now) (holds l.self.held.now) l.owners l.k)

abbrev pub decreases-loop-j : goal.decreases-loop-j
decreases-loop-j l = l.self.probes - l.k
