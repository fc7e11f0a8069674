-- RULES, "A graph as text": a sheet's conflict table as text.
use Rattle.std.specs.Prelude.{Result, Ok, Err, cond, ◌&&◌, [], ◌++◌, ℕ, zero, suc, ◌-◌, ltb, length}
use Rattle.meaning.specs.Words.{Bytes, places}
use Rattle.meaning.specs.Sheet.{probe_count}
use Rattle.meaning.specs.Conflict.{entry, conflict_table}
use Rattle.meaning.specs.declared.Refusal.{Refusal}
use Rattle.meaning.specs.declared.Outcome.{Outcome}
use Rattle.meaning.specs.Results.{outcome_of}
use Rattle.meaning.specs.Answer.{accepted, is_accepted, given, ◌then◌, sheet_test}
use Rattle.meaning.specs.Lister.{text, said}
use Rattle.graph.specs.Table.{Table, edges}

-- the texts f 0, f 1, .. f (n - 1), one behind the other
unfoldable pub texts : ℕ → (ℕ → Bytes) → Bytes
texts zero f = []
texts (suc k) f = texts k f ++ f k

-- "A graph as text": a `p edge` line with the number of vertices and of edges
unfoldable pub problem_line : (vertices edges : ℕ) → Bytes
problem_line vertices edges = said "p edge" vertices ++ said "" edges ++ text "\n"

-- "A graph as text": an `e` line for an edge
unfoldable pub edge_line : (a b : ℕ) → Bytes
edge_line a b = said "e" a ++ said "" b ++ text "\n"

-- "A graph as text": smaller number first, rising; vertex v is probe v + 1
abbrev pub edge_text : Table → (x y : ℕ) → Bytes
edge_text table x y = cond (ltb x y && entry table x y) (edge_line (x - 1) (y - 1)) []

unfoldable pub row_text : Table → (x : ℕ) → Bytes
row_text table x = texts places (edge_text table x)

-- "A graph as text": the text of a table with so many vertices
unfoldable pub table_text : (vertices : ℕ) → Table → Bytes
table_text vertices table = problem_line vertices (edges table) ++ texts places (row_text table)

-- "A graph as text": a sheet's text
abbrev pub graph_text : (s : Bytes) → Bytes
graph_text s = table_text (probe_count s) (conflict_table s)

-- "A graph as text": what the writer answers, number and place first; the bytes are 0 on refusal
pub record Drawn : Type 0 where
  pub outcome : Outcome
  pub bytes : ℕ

-- what the code answers, in these words
abbrev pub drawn_answer : Result ℕ Refusal → Drawn
drawn_answer (Ok bytes) = record { outcome = accepted; bytes = bytes }
drawn_answer (Err refusal) = record { outcome = outcome_of refusal; bytes = 0 }

-- what the writer makes: its answer, and the bytes that it writes at the start of the buffer
pub record GraphMade : Type 0 where
  pub answer : Drawn
  pub written : Bytes

-- "A graph as text": 1 to 8 first, then 21, the buffer is shorter than the text; a refused write leaves the buffer
unfoldable pub graph_made : (s : Bytes) → (room : ℕ) → GraphMade
graph_made s room =
    let outcome = sheet_test s then given 21 0 (ltb room (length (graph_text s))) in
    cond (is_accepted outcome)
    (record { answer = record { outcome = outcome; bytes = length (graph_text s) }; written = graph_text s })
    (record { answer = record { outcome = outcome; bytes = 0 }; written = [] })
