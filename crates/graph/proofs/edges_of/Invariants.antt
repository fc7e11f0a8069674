-- `graph::edges_of` meets its contract. The loop's invariant: those before y are counted.
use mathlib.Core.Path.{◌≡◌}
use mathlib.Core.Bool.{false, ◌&&◌}
use Prim.Native.Nat.{◌≤◌}
use lib.Dec.{ltb}
use lib.ListN.{get_or}
use Rattle.meaning.specs.Words.{count}
use Rattle.graph.proofs.edges_of.Given as goal

abbrev pub invariant-loop-y : goal.invariant-loop-y
invariant-loop-y l = (l.n ≤ l.y) × (l.n ≡ count l.y (λ k. ltb l.x k && get_or l.row k false))
