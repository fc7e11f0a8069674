-- RULES, "A graph as text": the table of a graph. Vertex v is probe v + 1, and each edge stands both ways.
use Rattle.std.specs.Prelude.{Bool, false, ◌&&◌, List, [], ℕ, ◌+◌, ltb, get_or}
use Rattle.meaning.specs.Words.{places, sum, count}
use Rattle.meaning.specs.Conflict.{table_of, entry}
use Rattle.conflict.specs.Marks.{marked}

abbrev pub Table : Type 0
Table = List (List Bool)

-- "A graph as text": the table of 0 vertices
unfoldable pub no_edges : Table
no_edges = table_of (λ x y. false)

-- whether an edge between two vertices stands in a table
abbrev pub is_joined : Table → (a b : ℕ) → Bool
is_joined table a b = entry table (a + 1) (b + 1)

-- a table with one edge more, marked both ways
unfoldable pub with_edge : Table → (a b : ℕ) → Table
with_edge table a b = marked places (marked places table (a + 1) (b + 1)) (b + 1) (a + 1)

-- how many edges a row of a table has behind its own place x
unfoldable pub edges_of : (row : List Bool) → (x : ℕ) → ℕ
edges_of row x = count places (λ y. ltb x y && get_or row y false)

-- how many edges a table has, each counted at its smaller vertex
unfoldable pub edges : Table → ℕ
edges table = sum places (λ x. edges_of (get_or table x []) x)
