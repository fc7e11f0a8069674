-- `slot::no_packet` meets its contract: each sender before i holds a packet.
use Prim.Native.Nat.{◌-◌}
use lib.ListN.{length}
use Rattle.meaning.specs.Judge.{no_packet}
use Rattle.slot.proofs.Looking.{Looking}
use Rattle.slot.proofs.no_packet.Given as goal

abbrev pub invariant-loop-i : goal.invariant-loop-i
invariant-loop-i l = Looking (no_packet l.held l.slot) (length l.slot) l.i

abbrev pub decreases-loop-i : goal.decreases-loop-i
decreases-loop-i l = length l.slot - l.i
