-- `slot::no_probe` meets its contract: each sender before i is a probe.
use mathlib.Core.Path.{◌≡◌}
use Prim.Native.Nat.{◌-◌}
use lib.ListN.{length}
use Rattle.meaning.specs.Judge.{no_probe}
use Rattle.laws.specs.Few.{at_most63}
use Rattle.slot.proofs.Looking.{Looking}
use Rattle.slot.proofs.no_probe.Given as goal

abbrev pub invariant-loop-i : goal.invariant-loop-i
invariant-loop-i l = (l.probes ≡ at_most63 l.p) × Looking (no_probe l.probes l.slot) (length l.slot) l.i

abbrev pub decreases-loop-i : goal.decreases-loop-i
decreases-loop-i l = length l.slot - l.i
