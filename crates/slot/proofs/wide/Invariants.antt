-- `slot::wide` meets its contract: before place i the packets are copied.
use mathlib.Core.Path.{◌≡◌}
use Prim.Native.Nat.{◌≤◌}
use lib.ListN.{length, get_or, take}
use Rattle.meaning.specs.Words.{tab}
use Rattle.slot.proofs.wide.Given as goal

abbrev pub invariant-loop-i : goal.invariant-loop-i
invariant-loop-i l = (l.i ≤ 65) × (length l.held ≡ 65) × (take l.i l.held ≡ tab l.i (λ k. get_or l.packets k 0))
