-- The vertices that a line says there are.
use Rattle.std.specs.Prelude.{ℕ}
use Rattle.graph.specs.declared.Line.{Line}
use Rattle.graph.specs.declared.Line.TheVariants.{Comment, Problem, Edge, Other}

-- a `p` line's first number, 0 of any other line
unfoldable pub vertices_said : Line → ℕ
vertices_said Comment = 0
vertices_said (Problem n m) = n
vertices_said (Edge a b) = 0
vertices_said Other = 0
