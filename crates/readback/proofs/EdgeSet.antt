-- Reading tells the edge set exactly: the table read after k lines has just the edges that the first k lines name.
use mathlib.Core.Path.{◌≡◌, refl, sym, ap, ◌∙◌}
use mathlib.Core.Bool.{Bool, true, false, cond, not, ◌&&◌, ◌||◌, or-false, true≢false}
use Prim.Native.Nat.{ℕ, zero, suc, ◌+◌}
use borrow.Author.Tests.{eqb-false}
use lib.Dec.{eqb}
use lib.ListN.{length}
use Rattle.meaning.specs.Words.{Bytes, Relation, places, some, for_each}
use Rattle.meaning.specs.Conflict.{table_of}
use Rattle.conflict.specs.Marks.{marked}
use Rattle.conflict.proofs.Tables.{table_same, marked-table}
use Rattle.graph.specs.declared.Line.{Line}
use Rattle.graph.specs.declared.Line.TheVariants.{Comment, Problem, Edge, Other}
use Rattle.graph.specs.declared.Reading.{Reading}
use Rattle.graph.specs.Part.{newline, marks, part}
use Rattle.graph.specs.Lines.{line_of}
use Rattle.graph.specs.Table.{Table, no_edges, with_edge}
use Rattle.graph.specs.Reading.{SoFar, unread, line_test, taken, faulty, table_after, after_line, line_read, lines_read, last_read, end_test, GraphRead}
use Rattle.graph.specs.Reading.{refused_graph, answered, ended, graph_read}
use Rattle.readback.specs.Named.{names, named}

or_assoc : (a b c : Bool) → ((a || b) || c) ≡ (a || (b || c))
or_assoc true b c = refl
or_assoc false b c = refl

table-next : (f : Relation) (line : Line) → table_after (table_of f) line ≡ table_of (λ x y. f x y || names line x y)
unfolding table_after names with_edge
table-next f Comment = table_same f (λ x y. f x y || false) (λ x hx y hy. sym (or-false (f x y)))
table-next f (Problem n m) = table_same f (λ x y. f x y || false) (λ x hx y hy. sym (or-false (f x y)))
table-next f (Edge a b) =
    ap (λ (t : Table). marked places t (b + 1) (a + 1)) (marked-table places f (a + 1) (b + 1))
    ∙ marked-table places (λ x y. f x y || (eqb (a + 1) x && eqb (b + 1) y)) (b + 1) (a + 1)
    ∙ table_same (λ x y. (f x y || (eqb (a + 1) x && eqb (b + 1) y)) || (eqb (b + 1) x && eqb (a + 1) y)) (λ x y. f x y || names (Edge a b) x y)
    (λ x hx y hy. or_assoc (f x y) (eqb (a + 1) x && eqb (b + 1) y) (eqb (b + 1) x && eqb (a + 1) y))
table-next f Other = table_same f (λ x y. f x y || false) (λ x hx y hy. sym (or-false (f x y)))

-- a line that was read without a fault: it has none itself, and none came before it
module _ (now : SoFar) (line : Bytes) (fine : eqb (line_read now line).state.number 0 ≡ true) where
  pub fine_before : eqb now.state.number 0 ≡ true
  unfolding line_read
  fine_before = go (eqb now.state.number 0) refl fine
    where
      go : (b : Bool) → eqb now.state.number 0 ≡ b → eqb (cond b (after_line now (line_of line) (line_test now.state now.table (line_of line))) now).state.number 0 ≡ true
          → eqb now.state.number 0 ≡ true
      go true e f = e
      go false e f = f

  -- what was read where the line has no fault, and where it has one
  went : SoFar
  went = record { state = taken now.state (line_of line); table = table_after now.table (line_of line) }

  stopped : ℕ → SoFar
  stopped number = record { state = faulty number now.state; table = now.table }

  fine-table : (line_read now line).table ≡ table_after now.table (line_of line)
  unfolding line_read faulty went stopped
  fine-table = go (eqb now.state.number 0) fine_before fine
    where
      test : ℕ
      test = line_test now.state now.table (line_of line)

      by : (number : ℕ) (b : Bool) → eqb number 0 ≡ b → eqb (cond {A = SoFar} b went (stopped number)).state.number 0 ≡ true
          → (cond {A = SoFar} b went (stopped number)).table ≡ table_after now.table (line_of line)
      by number true e f = refl
      by number false e f = absurd (true≢false (sym f ∙ e))

      go : (b : Bool) → b ≡ true → eqb (cond {A = SoFar} b (after_line now (line_of line) test) now).state.number 0 ≡ true
          → (cond {A = SoFar} b (after_line now (line_of line) test) now).table ≡ table_after now.table (line_of line)
      go true e f = by test (eqb test 0) refl f
      go false e f = absurd (true≢false (sym e))

-- the first k lines of a text, in turn
lines_first : Bytes → ℕ → SoFar
lines_first text k = for_each k (λ i now. line_read now (part newline i text)) (record { state = unread; table = no_edges })

-- the table after k lines without a fault
table-after : (text : Bytes) (k : ℕ) → eqb (lines_first text k).state.number 0 ≡ true → (lines_first text k).table ≡ table_of (named text k)
unfolding lines_first for_each named some no_edges
table-after text zero fine = refl
table-after text (suc k) fine =
    let now = lines_first text k in
    let line = part newline k text in
    let before = table-after text k (fine_before now line fine) in
    fine-table now line fine ∙ ap (λ (t : Table). table_after t (line_of line)) before ∙ table-next (named text k) (line_of line)

whole : SoFar → GraphRead
whole so = record { answer = record { number = 0; place = 0; vertices = so.state.vertices }; table = so.table }

-- where the end gives no number, none came before it, and the table is handed on
ended-fine : (so : SoFar) → (ended so).answer.number ≡ 0 → (eqb so.state.number 0 ≡ true) × ((ended so).table ≡ so.table)
unfolding ended whole
ended-fine so = go (eqb so.state.number 0) refl
  where
    test : ℕ
    test = end_test so.state so.table

    by : (b : Bool) → eqb test 0 ≡ b → (cond {A = GraphRead} b (whole so) (refused_graph test 0)).answer.number ≡ 0
        → (cond {A = GraphRead} b (whole so) (refused_graph test 0)).table ≡ so.table
    by true e f = refl
    by false e f = absurd (eqb-false test 0 e f)

    go : (b : Bool) → eqb so.state.number 0 ≡ b
        → (cond {A = GraphRead} b (answered so test) (refused_graph so.state.number so.state.place)).answer.number ≡ 0
        → (b ≡ true) × ((cond {A = GraphRead} b (answered so test) (refused_graph so.state.number so.state.place)).table ≡ so.table)
    go true e f = (refl, by (eqb test 0) refl f)
    go false e f = absurd (eqb-false so.state.number 0 e f)

last-fine : (now : Reading) (behind : Bytes) → eqb (last_read now behind).number 0 ≡ true → eqb now.number 0 ≡ true
unfolding last_read faulty
last-fine now behind = go (eqb now.number 0 && not (eqb (length behind) 0))
  where
    go : (b : Bool) → eqb (cond {A = Reading} b (faulty 18 now) now).number 0 ≡ true → eqb now.number 0 ≡ true
    go true e = absurd (true≢false (sym e))
    go false e = e

-- a text without a fault has no faulty line
accepted-lines : (text : Bytes) → (graph_read text).answer.number ≡ 0 → (eqb (lines_read text).state.number 0 ≡ true) × ((graph_read text).table ≡ (lines_read text).table)
unfolding graph_read
accepted-lines text e =
    let behind = part newline (marks newline text) text in
    let now = lines_read text in
    let end = ended-fine (record { state = last_read now.state behind; table = now.table }) e in
    (last-fine now.state behind end.0, end.1)

-- reading tells the edge set exactly: an edge is in the table just when a line of the text names it, either way round
pub tells-edges : (text : Bytes) → (graph_read text).answer.number ≡ 0 → (graph_read text).table ≡ table_of (named text (marks newline text))
unfolding lines_read lines_first
tells-edges text e =
    let lines = accepted-lines text e in
    lines.1 ∙ table-after text (marks newline text) lines.0
