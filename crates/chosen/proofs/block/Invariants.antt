-- `chosen::block` meets its contract: before place i the flags are joined, behind it they stand as they came.
use mathlib.Core.Bool.{false, ◌||◌}
use lib.ListN.{get_or}
use Rattle.laws.proofs.Lists.{Becoming}
use Rattle.chosen.proofs.block.Given as goal

abbrev pub invariant-loop-i : goal.invariant-loop-i
invariant-loop-i l = Becoming 65 l.i (λ k. get_or l.initial.blocked k false || get_or l.row k false) l.initial.blocked l.blocked
