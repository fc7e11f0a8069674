-- RULES, "The answers in words": a graph's table as a person reads it, a line for the graph and one for each vertex.
use Rattle.std.specs.Prelude.{Bool, false, cond, List, [], ◌++◌, ℕ, ◌+◌, ltb, get_or}
use Rattle.meaning.specs.Words.{Bytes, count}
use Rattle.meaning.specs.Lister.{text, decimal, said}
use Rattle.graph.specs.Table.{edges}
use Rattle.graph.specs.Drawing.{texts}

-- the first line: how many vertices and edges there are
unfoldable pub head_line : (vertices edges : ℕ) → Bytes
head_line vertices edges = said "vertices" vertices ++ said " edges" edges ++ text "\n"

-- "A graph as text": vertex v is probe v + 1; whether a row says that its vertex is joined to vertex k + 1
abbrev pub joins : (row : List Bool) → (k : ℕ) → Bool
joins row k = get_or row (k + 2) false

-- how many of the 63 vertices a vertex is joined to
unfoldable pub degree_in : (row : List Bool) → ℕ
degree_in row = count 63 (joins row)

-- vertex k + 1 after a space, where it is joined
abbrev pub joined_text : (row : List Bool) → (k : ℕ) → Bytes
joined_text row k = cond (joins row k) (said "" (k + 1)) []

-- the line of a vertex: its number, its degree, and the vertices that it is joined to, rising
unfoldable pub vertex_line : (v : ℕ) → (row : List Bool) → Bytes
vertex_line v row = decimal 5 v ++ said " degree" (degree_in row) ++ text ":" ++ texts 63 (joined_text row) ++ text "\n"

-- the line of vertex k + 1, by the row of its node, where there is such a vertex
abbrev pub vertex_text : (vertices : ℕ) → (table : List (List Bool)) → (k : ℕ) → Bytes
vertex_text vertices table k = cond (ltb k vertices) (vertex_line (k + 1) (get_or table (k + 2) [])) []

-- "The answers in words", the reader's of a graph, number 0: the line of the graph, and one for each vertex, from 1
unfoldable pub shown_table : (vertices : ℕ) → (table : List (List Bool)) → Bytes
shown_table vertices table = head_line vertices (edges table) ++ texts 63 (vertex_text vertices table)
