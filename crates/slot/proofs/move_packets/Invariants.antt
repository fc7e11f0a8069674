-- `slot::move_packets` meets its contract: a lone hop is all, and otherwise what is left from place i on, moved, is the whole slot moved.
use mathlib.Core.Path.{◌≡◌}
use Prim.Native.Nat.{◌-◌}
use lib.ListN.{length, get_or, drop}
use Rattle.slot.specs.Move.{moved_within}
use Rattle.slot.proofs.move_packets.Given as goal

abbrev pub invariant-loop-i : goal.invariant-loop-i
invariant-loop-i l = moved_within (λ u. get_or l.parents u 0) (drop l.i l.slot) l.held ≡ moved_within (λ u. get_or l.parents u 0) l.slot l.initial.held

abbrev pub decreases-loop-i : goal.decreases-loop-i
decreases-loop-i l = length l.slot - l.i
