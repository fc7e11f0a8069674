-- `tabled::say_table` meets its contract. The invariant: the lines of the vertices before place k are said.
use Rattle.lines.specs.Text.{Says}
use Rattle.graph.specs.Drawing.{texts}
use Rattle.tabled.specs.Tabled.{vertex_text}
use Rattle.tabled.proofs.say_table.Given as goal

abbrev pub invariant-loop-k : goal.invariant-loop-k
invariant-loop-k l = Says 25600 l.initial.text (texts l.k (vertex_text l.vertices l.table)) l.text
