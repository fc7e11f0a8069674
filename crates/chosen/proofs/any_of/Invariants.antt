-- `chosen::any_of` meets its contract: before the index it has looked at all flags.
use mathlib.Core.Path.{◌≡◌}
use mathlib.Core.Bool.{false}
use lib.ListN.{get_or}
use Rattle.meaning.specs.Words.{some}
use Rattle.chosen.proofs.any_of.Given as goal

abbrev pub invariant-loop-up : goal.invariant-loop-up
invariant-loop-up l = l.any ≡ some l.up-index (λ v. get_or l.flags v false)
