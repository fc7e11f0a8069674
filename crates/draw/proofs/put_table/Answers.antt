-- `draw::put_table` meets its contract: the edges are put behind the line that counts them.
use mathlib.Core.Path.{ap}
use Prim.Native.Nat.{ℕ}
use Rattle.lines.proofs.Fitting.{put-behind, put_same}
use Rattle.graph.specs.Drawing.{problem_line, table_text}
use Rattle.draw.proofs.put_table.Goals as goal

pub returns : goal.returns
unfolding table_text
returns c =
    put-behind (put_same (ap (λ (k : ℕ). problem_line c.args.vertices k) c.edges.ensures) c.put_problem-next.ensures) c.put_edges.ensures
