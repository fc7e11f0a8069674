-- `tabled::say_vertex` meets its contract. The invariant: what is joined before place k is said.
use Rattle.lines.specs.Text.{Says}
use Rattle.graph.specs.Drawing.{texts}
use Rattle.tabled.specs.Tabled.{joined_text}
use Rattle.tabled.proofs.say_vertex.Given as goal

abbrev pub invariant-loop-k : goal.invariant-loop-k
invariant-loop-k l = Says 25600 l.initial.text (texts l.k (joined_text l.row)) l.text
