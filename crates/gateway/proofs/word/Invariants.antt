-- `gateway::word`: the word has the bits before k.
use mathlib.Core.Path.{◌≡◌}
use mathlib.Core.Bool.{false}
use Prim.Native.Nat.{◌+◌}
use lib.ListN.{get_or}
use Rattle.gateway.proofs.Bits.{bits}
use Rattle.gateway.proofs.word.Given as goal

abbrev pub invariant-loop-k : goal.invariant-loop-k
invariant-loop-k l = l.w ≡ bits l.k (λ j. get_or l.row (j + 1) false)
