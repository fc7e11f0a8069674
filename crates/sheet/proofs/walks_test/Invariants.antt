-- `sheet::walks_test` meets its contract: the walks' invariant, as far as probe k + 2.
use lib.ListN.{get_or}
use Rattle.sheet.proofs.AllWalks.{Walked}
use Rattle.sheet.proofs.walks_test.Given as goal

abbrev pub invariant-loop-k : goal.invariant-loop-k
invariant-loop-k l = Walked (λ v. get_or l.parents v 0) l.p l.k l.levels
