-- `slot::two_conflict` meets its contract: the outer loop has looked at each pair whose first is before i, the inner one at those of i whose second is
-- before j; the label is left with the two found.
use mathlib.Core.Path.{◌≡◌}
use Prim.Native.Nat.{◌-◌, ◌<◌}
use lib.ListN.{length}
use Rattle.meaning.specs.Words.{some}
use Rattle.meaning.specs.Conflict.{entry}
use Rattle.meaning.specs.Judge.{conflict_behind}
use Rattle.slot.proofs.Looking.{Looking}
use Rattle.slot.proofs.two_conflict.Given as goal

abbrev pub invariant-loop-j : goal.invariant-loop-j
invariant-loop-j l = (l.first ≡ length l.slot) × (l.second ≡ length l.slot) × (l.i < l.j) × Looking (conflict_behind (entry l.table) l.slot l.i) (length l.slot) l.j

abbrev pub decreases-loop-j : goal.decreases-loop-j
decreases-loop-j l = length l.slot - l.j

abbrev pub invariant-pairs : goal.invariant-pairs
invariant-pairs l = (l.first ≡ length l.slot) × (l.second ≡ length l.slot) × Looking (λ k. some (length l.slot) (conflict_behind (entry l.table) l.slot k)) (length l.slot) l.i

abbrev pub decreases-pairs : goal.decreases-pairs
decreases-pairs l = length l.slot - l.i
