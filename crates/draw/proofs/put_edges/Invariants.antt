-- `draw::put_edges` meets its contract. The invariant: the rows before x are put.
use mathlib.Core.Path.{◌≡◌}
use lib.ListN.{length}
use Rattle.lines.specs.Fits.{Fits}
use Rattle.graph.specs.Drawing.{texts, row_text}
use Rattle.draw.proofs.put_edges.Given as goal

abbrev pub invariant-loop-x : goal.invariant-loop-x
invariant-loop-x l = (length l.out ≡ length l.initial.out) × Fits l.initial.out l.at (texts l.x (row_text l.table)) l.out l.end
