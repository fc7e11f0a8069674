-- `waking::say_slots` meets its contract. The invariant: the first i slots are said.
use mathlib.Core.Path.{◌≡◌}
use Rattle.lines.specs.Fits.{Fits}
use Rattle.waking.proofs.WakeWords.{slot_of, first_slots}
use Rattle.waking.proofs.say_slots.Given as goal

abbrev pub invariant-loop-i : goal.invariant-loop-i
invariant-loop-i l =
    (l.line.out.ghost_name ≡ l.initial.line.out.ghost_name)
    × Fits l.initial.line.out.now l.initial.line.end (first_slots (slot_of l.entry l.at) l.i) l.line.out.now l.line.end
