-- `graph::edges` meets its contract. The loop's invariant: the edges of the rows before x are counted.
use mathlib.Core.Path.{◌≡◌}
use mathlib.Core.List.{[]}
use Prim.Native.Nat.{◌≤◌, ◌*◌}
use lib.ListN.{get_or}
use Rattle.meaning.specs.Words.{sum}
use Rattle.graph.specs.Table.{edges_of}
use Rattle.graph.proofs.edges.Given as goal

abbrev pub invariant-loop-x : goal.invariant-loop-x
invariant-loop-x l = (l.n ≤ 65 * l.x) × (l.n ≡ sum l.x (λ k. edges_of (get_or l.table k []) k))
