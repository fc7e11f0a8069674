-- RULES, "A graph as text": a text is read line by line; what each line may be after what came before, and what is answered at the end.
use Rattle.std.specs.Prelude.{Bool, true, false, cond, not, ◌&&◌, ◌||◌, ℕ, ◌+◌, min, eqb, ltb, leb, length}
use Rattle.meaning.specs.Words.{Bytes, for_each}
use Rattle.graph.specs.declared.Line.{Line}
use Rattle.graph.specs.declared.Line.TheVariants.{Comment, Problem, Edge, Other}
use Rattle.graph.specs.declared.Reading.{Reading}
use Rattle.graph.specs.declared.Graph.{Graph}
use Rattle.graph.specs.Part.{newline, marks, part}
use Rattle.graph.specs.Lines.{line_of}
use Rattle.graph.specs.Table.{Table, no_edges, is_joined, with_edge, edges}

-- what was read of a text so far, and its table
pub record SoFar : Type 0 where
  pub state : Reading
  pub table : Table

-- before the first line
unfoldable pub unread : Reading
unread = record { number = 0; place = 0; lines = 0; begun = false; vertices = 0; stated = 0 }

-- the number of the next line; no number above 2⁶⁴ - 1 is told
abbrev pub next_line : Reading → ℕ
next_line now = min (now.lines + 1) 18446744073709551615

-- "A graph as text": 18 is any other line, an edge repeated (either way round), more than 63 vertices, not exactly one `p` line before all edges
unfoldable pub may_stand : Reading → Table → Line → Bool
may_stand now table Comment = true
may_stand now table (Problem n m) = not now.begun && leb n 63
may_stand now table (Edge a b) = now.begun && not (is_joined table a b)
may_stand now table Other = false

-- "A graph as text": 19 is a vertex out of range or a loop
abbrev pub is_outside : (vertices v : ℕ) → Bool
is_outside vertices v = eqb v 0 || ltb vertices v

unfoldable pub is_astray : Reading → Line → Bool
is_astray now Comment = false
is_astray now (Problem n m) = false
is_astray now (Edge a b) = is_outside now.vertices a || (is_outside now.vertices b || eqb a b)
is_astray now Other = false

-- "A graph as text": 18 before 19 in each line
unfoldable pub line_test : Reading → Table → Line → ℕ
line_test now table line = cond (may_stand now table line) (cond (is_astray now line) 19 0) 18

-- one line more
abbrev pub counted : Reading → Reading
counted now = record { number = 0; place = 0; lines = next_line now; begun = now.begun; vertices = now.vertices; stated = now.stated }

-- what is known after a line without a fault
unfoldable pub taken : Reading → Line → Reading
taken now Comment = counted now
taken now (Problem n m) = record { number = 0; place = 0; lines = next_line now; begun = true; vertices = n; stated = m }
taken now (Edge a b) = counted now
taken now Other = counted now

-- what is known after a line with one: its place is the line
unfoldable pub faulty : (number : ℕ) → Reading → Reading
faulty number now =
    record { number = number; place = next_line now; lines = next_line now; begun = now.begun; vertices = now.vertices; stated = now.stated }

-- the table after a line without a fault
unfoldable pub table_after : Table → Line → Table
table_after table Comment = table
table_after table (Problem n m) = table
table_after table (Edge a b) = with_edge table a b
table_after table Other = table

-- what was read after one line more, by its number
abbrev pub after_line : SoFar → Line → (number : ℕ) → SoFar
after_line now line number =
    cond (eqb number 0)
    (record { state = taken now.state line; table = table_after now.table line })
    (record { state = faulty number now.state; table = now.table })

-- "A graph as text": one line more; behind the first faulty line nothing changes
unfoldable pub line_read : SoFar → (line : Bytes) → SoFar
line_read now line =
    cond (eqb now.state.number 0) (after_line now (line_of line) (line_test now.state now.table (line_of line))) now

-- the lines that are ended, in turn
unfoldable pub lines_read : (text : Bytes) → SoFar
lines_read text =
    for_each (marks newline text) (λ k now. line_read now (part newline k text)) (record { state = unread; table = no_edges })

-- "A graph as text": 18 is an unended last line, at its own number; bytes stand behind the last newline
unfoldable pub last_read : Reading → (behind : Bytes) → Reading
last_read now behind = cond (eqb now.number 0 && not (eqb (length behind) 0)) (faulty 18 now) now

-- "A graph as text": at the end, 18 where no `p` line came, and 20 where the edge count differs
unfoldable pub end_test : Reading → Table → ℕ
end_test now table = cond now.begun (cond (eqb now.stated (edges table)) 0 20) 18

-- what is answered, and the table
pub record GraphRead : Type 0 where
  pub answer : Graph
  pub table : Table

-- "A graph as text": a refused text gives the table of 0 vertices
abbrev pub refused_graph : (number place : ℕ) → GraphRead
refused_graph number place = record { answer = record { number = number; place = place; vertices = 0 }; table = no_edges }

-- the answer by what was read of the whole text
abbrev pub answered : SoFar → (number : ℕ) → GraphRead
answered now number =
    cond (eqb number 0)
    (record { answer = record { number = 0; place = 0; vertices = now.state.vertices }; table = now.table })
    (refused_graph number 0)

unfoldable pub ended : SoFar → GraphRead
ended now =
    cond (eqb now.state.number 0)
    (answered now (end_test now.state now.table))
    (refused_graph now.state.number now.state.place)

-- "A graph as text": a text read into a table
unfoldable pub graph_read : (text : Bytes) → GraphRead
graph_read text =
    let now = lines_read text in
    ended (record { state = last_read now.state (part newline (marks newline text) text); table = now.table })
