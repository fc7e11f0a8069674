-- RULES, "A graph as text": which edges the lines of a text name.
use Rattle.std.specs.Prelude.{false, ◌&&◌, ◌||◌, ℕ, ◌+◌, eqb}
use Rattle.meaning.specs.Words.{Bytes, Relation, some}
use Rattle.graph.specs.declared.Line.{Line}
use Rattle.graph.specs.declared.Line.TheVariants.{Comment, Problem, Edge, Other}
use Rattle.graph.specs.Part.{newline, part}
use Rattle.graph.specs.Lines.{line_of}

-- a line names the edge between two nodes, either way round; vertex v is node v + 1
unfoldable pub names : Line → Relation
names Comment x y = false
names (Problem n m) x y = false
names (Edge a b) x y = eqb (a + 1) x && eqb (b + 1) y || eqb (b + 1) x && eqb (a + 1) y
names Other x y = false

-- some of the first k lines of a text names it
unfoldable pub named : (text : Bytes) → (k : ℕ) → Relation
named text k x y = some k (λ i. names (line_of (part newline i text)) x y)
