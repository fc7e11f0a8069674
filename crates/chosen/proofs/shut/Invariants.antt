-- `chosen::shut` meets its contract: before place i those in conflict are shut, behind it the flags stand as they came.
use mathlib.Core.Bool.{false, not, ◌&&◌, ◌||◌}
use lib.ListN.{get_or}
use Rattle.laws.proofs.Lists.{Becoming}
use Rattle.chosen.proofs.shut.Given as goal

abbrev pub invariant-loop-i : goal.invariant-loop-i
invariant-loop-i l = Becoming 65 l.i (λ v. get_or l.owners v false || get_or l.initial.free v false && not (get_or l.row v false)) l.initial.free l.free
