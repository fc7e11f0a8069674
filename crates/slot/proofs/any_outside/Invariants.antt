-- `slot::any_outside` meets its contract: none of the first k probes holds a packet.
use Prim.Native.Nat.{◌+◌}
use Rattle.meaning.specs.Rounds.{holds}
use Rattle.laws.specs.Few.{at_most63}
use Rattle.slot.proofs.Looking.{Looking}
use Rattle.slot.proofs.any_outside.Given as goal

abbrev pub invariant-loop-k : goal.invariant-loop-k
invariant-loop-k l = Looking (λ j. holds l.held (j + 2)) (at_most63 l.p) l.k
