-- `slot::not_rising` meets its contract: each sender behind one of the first i is above it.
use Prim.Native.Nat.{◌-◌}
use lib.ListN.{length}
use Rattle.meaning.specs.Judge.{not_rising}
use Rattle.slot.proofs.Looking.{Looking}
use Rattle.slot.proofs.not_rising.Given as goal

abbrev pub invariant-loop-i : goal.invariant-loop-i
invariant-loop-i l = Looking (not_rising l.slot) (length l.slot - 1) l.i

abbrev pub decreases-loop-i : goal.decreases-loop-i
decreases-loop-i l = length l.slot - l.i
