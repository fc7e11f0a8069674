-- What the writer makes in its three cases, and that the text it wrote reads back.
use mathlib.Core.Path.{◌≡◌, refl, ap, ◌∙◌}
use mathlib.Core.Bool.{Bool, true, false, cond}
use mathlib.Core.List.{[]}
use Prim.Native.Nat.{ℕ, ◌≤◌, ◌<◌}
use borrow.Author.Tests.{lt-ltb, le-ltb}
use lib.Dec.{eqb, ltb}
use lib.ListN.{length, take, drop}
use lib.Seq.{take_at}
use Rattle.meaning.specs.declared.Outcome.{Outcome}
use Rattle.meaning.specs.Words.{Bytes}
use Rattle.meaning.specs.Sheet.{probe_count}
use Rattle.meaning.specs.Plan.{front}
use Rattle.meaning.specs.Conflict.{conflict_table}
use Rattle.meaning.specs.Answer.{accepted, is_accepted, given, ◌then◌, sheet_test}
use Rattle.laws.proofs.Accepted.{then-goes, then-stays}
use Rattle.graph.specs.Table.{no_edges}
use Rattle.graph.specs.Reading.{SoFar, GraphRead, refused_graph, answered, end_test, ended, graph_read}
use Rattle.graph.specs.Drawing.{GraphMade, graph_text, graph_made}
use Rattle.readback.proofs.OfSheet.{sheet-reads-back}

module _ (s : Bytes) (room : ℕ) where
  -- by the number that its tests give
  whole : Outcome → GraphMade
  whole outcome = record { answer = record { outcome = outcome; bytes = length (graph_text s) }; written = graph_text s }

  nothing : Outcome → GraphMade
  nothing outcome = record { answer = record { outcome = outcome; bytes = 0 }; written = [] }

  made_by : (outcome : Outcome) → (sheet_test s then given 21 0 (ltb room (length (graph_text s)))) ≡ outcome
      → graph_made s room ≡ cond (is_accepted outcome) (whole outcome) (nothing outcome)
  unfolding graph_made whole nothing
  made_by outcome e = ap (λ (o : Outcome). cond (is_accepted o) (whole o) (nothing o)) e

  pub made-whole : is_accepted (sheet_test s) ≡ true → length (graph_text s) ≤ room
      → graph_made s room ≡ record { answer = record { outcome = accepted; bytes = length (graph_text s) }; written = graph_text s }
  unfolding whole
  made-whole ok fits =
      made_by accepted
      (then-goes (sheet_test s) _ ok ∙ ap (λ (t : Bool). given 21 0 t) (le-ltb room (length (graph_text s)) fits))

  pub made-refused : is_accepted (sheet_test s) ≡ false → graph_made s room ≡ record { answer = record { outcome = sheet_test s; bytes = 0 }; written = [] }
  unfolding nothing
  made-refused refused =
      made_by (sheet_test s) (then-stays (sheet_test s) _ refused)
      ∙ ap (λ (t : Bool). cond {A = GraphMade} t (whole (sheet_test s)) (nothing (sheet_test s))) refused

  pub made-short : is_accepted (sheet_test s) ≡ true → room < length (graph_text s)
      → graph_made s room ≡ record { answer = record { outcome = record { number = 21; place = 0 }; bytes = 0 }; written = [] }
  unfolding nothing
  made-short ok short =
      made_by (record { number = 21; place = 0 })
      (then-goes (sheet_test s) _ ok ∙ ap (λ (t : Bool). given 21 0 t) (lt-ltb room (length (graph_text s)) short))

-- the text that it wrote, the first bytes of the buffer, as many as it answers, reads back
pub written-reads-back : (s buffer : Bytes) → is_accepted (sheet_test s) ≡ true → length (graph_text s) ≤ length buffer
    → graph_read (take (graph_made s (length buffer)).answer.bytes (front buffer (graph_made s (length buffer)).written))
    ≡ record { answer = record { number = 0; place = 0; vertices = probe_count s }; table = conflict_table s }
written-reads-back s buffer ok fits =
    ap (λ (m : GraphMade). graph_read (take m.answer.bytes (front buffer m.written))) (made-whole s (length buffer) ok fits)
    ∙ ap graph_read (take_at (graph_text s) (drop (length (graph_text s)) buffer) (length (graph_text s)) refl)
    ∙ sheet-reads-back s ok

-- a refused text gives the table of 0 vertices
ended-refused : (so : SoFar) → ((ended so).answer.number ≡ 0 → ⊥) → ((ended so).answer.vertices ≡ 0) × ((ended so).table ≡ no_edges)
unfolding ended
ended-refused so = go (eqb so.state.number 0)
  where
    test : ℕ
    test = end_test so.state so.table

    read : GraphRead
    read = record { answer = record { number = 0; place = 0; vertices = so.state.vertices }; table = so.table }

    Refused : GraphRead → Type 0
    Refused r = (r.answer.number ≡ 0 → ⊥) → (r.answer.vertices ≡ 0) × (r.table ≡ no_edges)

    by : (b : Bool) → Refused (cond {A = GraphRead} b read (refused_graph test 0))
    by true not0 = absurd (not0 refl)
    by false not0 = (refl, refl)

    go : (b : Bool) → Refused (cond {A = GraphRead} b (answered so test) (refused_graph so.state.number so.state.place))
    go true not0 = by (eqb test 0) not0
    go false not0 = (refl, refl)

pub refused-empty : (text : Bytes) → ((graph_read text).answer.number ≡ 0 → ⊥) → ((graph_read text).answer.vertices ≡ 0) × ((graph_read text).table ≡ no_edges)
unfolding graph_read
refused-empty text not0 = ended-refused _ not0
