-- `chosen::Turn::next_free` meets its contract: no place from k up to j is free.
use mathlib.Core.Path.{◌≡◌}
use mathlib.Core.Bool.{false}
use Prim.Native.Nat.{ℕ, ◌+◌, ◌≤◌, ◌<◌}
use lib.ListN.{get_or}
use Rattle.chosen.proofs.Turn.next_free.Given as goal

abbrev pub invariant-loop-j : goal.invariant-loop-j
invariant-loop-j l = (i : ℕ) → i < l.j → l.k ≤ i → get_or l.free (i + 2) false ≡ false
