-- `waking::slots_length` meets its contract. The invariant: the bytes of the first i slots are counted.
use mathlib.Core.Path.{◌≡◌}
use lib.ListN.{length}
use Rattle.waking.proofs.WakeWords.{slot_of, first_slots}
use Rattle.waking.proofs.slots_length.Given as goal

abbrev pub invariant-loop-i : goal.invariant-loop-i
invariant-loop-i l = l.all ≡ length (first_slots (slot_of l.entry l.at) l.i)
