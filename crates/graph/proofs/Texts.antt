-- RULES, "A graph as text": texts that are proved, as rows of one table under one claim, computed from the definitions.
use mathlib.Core.Bool.{Bool, true, false, ◌&&◌}
use mathlib.Core.List.{List, [], ◌∷◌, ◌++◌}
use Prim.Native.Nat.{ℕ, suc}
use Prim.Native.String.{String}
use lib.Dec.{T}
use lib.ListN.{replicate}
use Rattle.meaning.specs.Words.{Bytes, for_each, some, sum, tab}
use Rattle.meaning.specs.Plan.{front}
use Rattle.meaning.specs.Sheet.{parent_of, interfere}
use Rattle.meaning.specs.Yard.{reaches, climb, climbed}
use Rattle.meaning.specs.Conflict.{disturb, conflict, conflict_table}
use Rattle.meaning.specs.Answer.{◌then◌, in_order, probe_test, walk_test, pair_test, counts_test, sheet_test}
use Rattle.meaning.specs.Lister.{text, decimal}
use Rattle.conflict.specs.Marks.{marked}
use Rattle.digits.specs.Digits.{others_stand, digits_say, number_said}
use Rattle.graph.specs.declared.Graph.{Graph}
use Rattle.graph.specs.Part.{marks, part}
use Rattle.graph.specs.Lines.{same, is_number, is_problem, is_edge, line_of}
use Rattle.graph.specs.Table.{Table, no_edges, with_edge, edges_of, edges}
use Rattle.graph.specs.Reading.{unread, may_stand, is_astray, line_test, taken, faulty, table_after, line_read, lines_read, last_read, end_test, ended, graph_read}
use Rattle.graph.specs.Drawing.{texts, problem_line, edge_line, row_text, table_text, GraphMade, graph_made}

-- what a row says. `read` gives a text, then number, place and vertices, and for each node from 0 on the nodes that it is joined to. `drawn` gives a
-- sheet and the length of the buffer lent, whose bytes are all `ee`; then number, place and bytes written; then the whole buffer afterwards
pub data Row : Type 0 where
  read : String → List ℕ → List (List ℕ) → Row
  drawn : Bytes → ℕ → List ℕ → Bytes → Row

numbers : Graph → List ℕ
numbers r = r.number ∷ r.place ∷ r.vertices ∷ []

-- the places of a row's flags that are up, where the row begins at place k
up : ℕ → List Bool → List ℕ
up k [] = []
up k (true ∷ flags) = k ∷ up (suc k) flags
up k (false ∷ flags) = up (suc k) flags

-- row by row, a table has just these flags up, and none in the rows behind them
says : Table → List (List ℕ) → Bool
says [] [] = true
says [] (places ∷ more) = false
says (row ∷ rows) [] = same (up 0 row) [] && says rows []
says (row ∷ rows) (places ∷ more) = same (up 0 row) places && says rows more

made : GraphMade → ℕ → Bytes
made r lent = r.answer.outcome.number ∷ r.answer.outcome.place ∷ r.answer.bytes ∷ front (replicate lent 0xee) r.written

pub true-row : Row → Bool
true-row (read written answer table) = same (numbers (graph_read (text written)).answer) answer && says (graph_read (text written)).table table
true-row (drawn sheet lent answer after) = same (made (graph_made sheet lent) lent) (answer ++ after)

pub all_true : List Row → Bool
all_true [] = true
all_true (row ∷ rows) = true-row row && all_true rows

pub rows : List Row
rows =
    -- a text as it is written, and turned round, with comments anywhere
    read "p edge 0 0\n" (0 ∷ 0 ∷ 0 ∷ []) []
    ∷ read "p edge 63 0\n" (0 ∷ 0 ∷ 63 ∷ []) []
    ∷ read "p edge 2 1\ne 1 2\n" (0 ∷ 0 ∷ 2 ∷ []) ([] ∷ [] ∷ (3 ∷ []) ∷ (2 ∷ []) ∷ [])
    ∷ read "p edge 2 1\ne 2 1\n" (0 ∷ 0 ∷ 2 ∷ []) ([] ∷ [] ∷ (3 ∷ []) ∷ (2 ∷ []) ∷ [])
    ∷ read "p edge 3 2\ne 1 2\ne 2 3\n" (0 ∷ 0 ∷ 3 ∷ []) ([] ∷ [] ∷ (3 ∷ []) ∷ (2 ∷ 4 ∷ []) ∷ (3 ∷ []) ∷ [])
    ∷ read "c e 9 9\np edge 3 2\nc\ne 3 2\ncomment\ne 1 2\nc \n" (0 ∷ 0 ∷ 3 ∷ []) ([] ∷ [] ∷ (3 ∷ []) ∷ (2 ∷ 4 ∷ []) ∷ (3 ∷ []) ∷ [])
    -- 18: no `p` line; place 0
    ∷ read "" (18 ∷ 0 ∷ 0 ∷ []) []
    ∷ read "c\n" (18 ∷ 0 ∷ 0 ∷ []) []
    -- 18: any other line
    ∷ read "\n" (18 ∷ 1 ∷ 0 ∷ []) []
    ∷ read "p edge 2 1\n\ne 1 2\n" (18 ∷ 2 ∷ 0 ∷ []) []
    ∷ read "x\n" (18 ∷ 1 ∷ 0 ∷ []) []
    ∷ read "C\np edge 0 0\n" (18 ∷ 1 ∷ 0 ∷ []) []
    ∷ read " c\n" (18 ∷ 1 ∷ 0 ∷ []) []
    ∷ read "p edge 2 1\ne 1\n" (18 ∷ 2 ∷ 0 ∷ []) []
    ∷ read "p edge 2 1\ne 1 2 \n" (18 ∷ 2 ∷ 0 ∷ []) []
    ∷ read "p edge 2 1\ne 1 2 3\n" (18 ∷ 2 ∷ 0 ∷ []) []
    ∷ read "p edge 2 1\nf 1 2\n" (18 ∷ 2 ∷ 0 ∷ []) []
    ∷ read "p edge 2 1\nee 1 2\n" (18 ∷ 2 ∷ 0 ∷ []) []
    ∷ read "p edge 2 1\ne  1 2\n" (18 ∷ 2 ∷ 0 ∷ []) []
    ∷ read "p edge 2 1\n e 1 2\n" (18 ∷ 2 ∷ 0 ∷ []) []
    ∷ read "p edge 2\n" (18 ∷ 1 ∷ 0 ∷ []) []
    ∷ read "p edge 2 0 0\n" (18 ∷ 1 ∷ 0 ∷ []) []
    ∷ read "p col 2 0\n" (18 ∷ 1 ∷ 0 ∷ []) []
    ∷ read "p edg 2 0\n" (18 ∷ 1 ∷ 0 ∷ []) []
    ∷ read "p edges 2 0\n" (18 ∷ 1 ∷ 0 ∷ []) []
    ∷ read "q edge 2 0\n" (18 ∷ 1 ∷ 0 ∷ []) []
    ∷ read "edge 2 0\n" (18 ∷ 1 ∷ 0 ∷ []) []
    ∷ read "p  edge 2 0\n" (18 ∷ 1 ∷ 0 ∷ []) []
    ∷ read "p edge  0\n" (18 ∷ 1 ∷ 0 ∷ []) []
    -- 18: a number with a leading zero, a sign, another byte or nothing
    ∷ read "p edge 02 0\n" (18 ∷ 1 ∷ 0 ∷ []) []
    ∷ read "p edge 2 00\n" (18 ∷ 1 ∷ 0 ∷ []) []
    ∷ read "p edge +2 0\n" (18 ∷ 1 ∷ 0 ∷ []) []
    ∷ read "p edge 2 -0\n" (18 ∷ 1 ∷ 0 ∷ []) []
    ∷ read "p edge 2/ 0\n" (18 ∷ 1 ∷ 0 ∷ []) []
    ∷ read "p edge 2: 0\n" (18 ∷ 1 ∷ 0 ∷ []) []
    ∷ read "p edge 2 1\ne 01 2\n" (18 ∷ 2 ∷ 0 ∷ []) []
    ∷ read "p edge 2 1\ne 1 02\n" (18 ∷ 2 ∷ 0 ∷ []) []
    ∷ read "p edge 2 1\ne 1 2.\n" (18 ∷ 2 ∷ 0 ∷ []) []
    -- 18: an unended last line, a comment too
    ∷ read "p edge 0 0" (18 ∷ 1 ∷ 0 ∷ []) []
    ∷ read "c" (18 ∷ 1 ∷ 0 ∷ []) []
    ∷ read "p edge 2 1\ne 1 2" (18 ∷ 2 ∷ 0 ∷ []) []
    ∷ read "p edge 0 0\nc" (18 ∷ 2 ∷ 0 ∷ []) []
    -- 18: an edge repeated, either way round
    ∷ read "p edge 2 2\ne 1 2\ne 1 2\n" (18 ∷ 3 ∷ 0 ∷ []) []
    ∷ read "p edge 2 2\ne 1 2\ne 2 1\n" (18 ∷ 3 ∷ 0 ∷ []) []
    ∷ read "p edge 3 2\ne 2 3\nc\ne 3 2\n" (18 ∷ 4 ∷ 0 ∷ []) []
    -- 18: more than 63 vertices, of any length; not exactly one `p` line before all edges
    ∷ read "p edge 64 0\n" (18 ∷ 1 ∷ 0 ∷ []) []
    ∷ read "p edge 65536 0\n" (18 ∷ 1 ∷ 0 ∷ []) []
    ∷ read "p edge 18446744073709551616 0\n" (18 ∷ 1 ∷ 0 ∷ []) []
    ∷ read "p edge 2 0\np edge 2 0\n" (18 ∷ 2 ∷ 0 ∷ []) []
    ∷ read "e 1 2\np edge 2 1\n" (18 ∷ 1 ∷ 0 ∷ []) []
    -- 19: a vertex out of range, of any length, or a loop
    ∷ read "p edge 2 1\ne 0 1\n" (19 ∷ 2 ∷ 0 ∷ []) []
    ∷ read "p edge 2 1\ne 1 0\n" (19 ∷ 2 ∷ 0 ∷ []) []
    ∷ read "p edge 2 1\ne 1 3\n" (19 ∷ 2 ∷ 0 ∷ []) []
    ∷ read "p edge 2 1\ne 3 1\n" (19 ∷ 2 ∷ 0 ∷ []) []
    ∷ read "p edge 2 1\ne 1 65538\n" (19 ∷ 2 ∷ 0 ∷ []) []
    ∷ read "p edge 2 1\ne 18446744073709551617 2\n" (19 ∷ 2 ∷ 0 ∷ []) []
    ∷ read "p edge 2 1\ne 2 2\n" (19 ∷ 2 ∷ 0 ∷ []) []
    ∷ read "p edge 63 1\ne 63 64\n" (19 ∷ 2 ∷ 0 ∷ []) []
    -- 18 before 19 in each line; the first faulty line
    ∷ read "e 1 1\n" (18 ∷ 1 ∷ 0 ∷ []) []
    ∷ read "e 0 9\n" (18 ∷ 1 ∷ 0 ∷ []) []
    ∷ read "p edge 2 1\ne 1 1\nx\n" (19 ∷ 2 ∷ 0 ∷ []) []
    ∷ read "p edge 2 1\nx\ne 1 1\n" (18 ∷ 2 ∷ 0 ∷ []) []
    ∷ read "p edge 2 1\ne 1 1\ne 1 2" (19 ∷ 2 ∷ 0 ∷ []) []
    ∷ read "x\ny" (18 ∷ 1 ∷ 0 ∷ []) []
    -- 20: the edge count differs, at the end
    ∷ read "p edge 2 0\ne 1 2\n" (20 ∷ 0 ∷ 0 ∷ []) []
    ∷ read "p edge 2 2\ne 1 2\n" (20 ∷ 0 ∷ 0 ∷ []) []
    ∷ read "p edge 2 65537\ne 1 2\n" (20 ∷ 0 ∷ 0 ∷ []) []
    ∷ read "p edge 2 18446744073709551617\ne 1 2\n" (20 ∷ 0 ∷ 0 ∷ []) []
    ∷ read "p edge 3 1\ne 1 2\ne 2 3\n" (20 ∷ 0 ∷ 0 ∷ []) []
    ∷ read "p edge 2 2\ne 1 1\n" (19 ∷ 2 ∷ 0 ∷ []) []
    ∷ read "p edge 2 2\ne 1 2" (18 ∷ 2 ∷ 0 ∷ []) []
    -- what is written of a sheet, and what is left of the buffer: 1 to 8 first, then 21
    ∷ drawn (3 ∷ 1 ∷ 1 ∷ 2 ∷ 1 ∷ 1 ∷ 1 ∷ 0 ∷ 0 ∷ []) 24 (0 ∷ 0 ∷ 23 ∷ []) (text "p edge 3 2\ne 1 2\ne 1 3\n" ++ (0xee ∷ []))
    ∷ drawn (3 ∷ 1 ∷ 1 ∷ 2 ∷ 1 ∷ 1 ∷ 1 ∷ 0 ∷ 0 ∷ []) 23 (0 ∷ 0 ∷ 23 ∷ []) (text "p edge 3 2\ne 1 2\ne 1 3\n")
    ∷ drawn (3 ∷ 1 ∷ 1 ∷ 2 ∷ 1 ∷ 1 ∷ 1 ∷ 0 ∷ 0 ∷ []) 22 (21 ∷ 0 ∷ 0 ∷ []) (replicate 22 0xee)
    ∷ drawn (3 ∷ 1 ∷ 1 ∷ 2 ∷ 1 ∷ 1 ∷ 1 ∷ 0 ∷ 1 ∷ 2 ∷ 4 ∷ []) 29 (0 ∷ 0 ∷ 29 ∷ []) (text "p edge 3 3\ne 1 2\ne 1 3\ne 2 3\n")
    ∷ drawn (4 ∷ 1 ∷ 1 ∷ 1 ∷ 1 ∷ 1 ∷ 1 ∷ 1 ∷ 1 ∷ 0 ∷ 0 ∷ []) 47 (0 ∷ 0 ∷ 47 ∷ []) (text "p edge 4 6\ne 1 2\ne 1 3\ne 1 4\ne 2 3\ne 2 4\ne 3 4\n")
    ∷ drawn (0 ∷ 0 ∷ 0 ∷ []) 11 (0 ∷ 0 ∷ 11 ∷ []) (text "p edge 0 0\n")
    ∷ drawn (0 ∷ 0 ∷ 0 ∷ []) 10 (21 ∷ 0 ∷ 0 ∷ []) (replicate 10 0xee)
    ∷ drawn (2 ∷ 3 ∷ 1 ∷ 2 ∷ 1 ∷ 0 ∷ 0 ∷ []) 1 (6 ∷ 2 ∷ 0 ∷ []) (0xee ∷ [])
    ∷ drawn [] 0 (1 ∷ 0 ∷ 0 ∷ []) []
    ∷ []

-- the one claim: every row is true
pub proved-texts : T (all_true rows)
unfolding numbers up says made true-row all_true rows for_each some sum tab reaches climb climbed parent_of interfere disturb conflict conflict_table
    ◌then◌ in_order probe_test walk_test pair_test counts_test sheet_test text decimal marked others_stand digits_say number_said
    marks part same is_number is_problem is_edge line_of no_edges with_edge edges_of edges
    unread may_stand is_astray line_test taken faulty table_after line_read lines_read last_read end_test ended graph_read
    texts problem_line edge_line row_text table_text graph_made
proved-texts = tt
