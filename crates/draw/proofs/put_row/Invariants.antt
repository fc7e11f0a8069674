-- `draw::put_row` meets its contract. The invariant: what stands before place y of the row is put.
use mathlib.Core.Path.{◌≡◌}
use Prim.Native.Nat.{◌-◌}
use lib.ListN.{length}
use Rattle.lines.specs.Fits.{Fits}
use Rattle.graph.specs.Drawing.{texts, edge_text}
use Rattle.draw.proofs.put_row.Given as goal

abbrev pub invariant-loop-y : goal.invariant-loop-y
invariant-loop-y l = (length l.out ≡ length l.initial.out) × (l.a ≡ l.x - 1) × Fits l.initial.out l.at (texts l.y (edge_text l.table l.x)) l.out l.end
