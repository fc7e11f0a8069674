-- A text that grows by a line: what was read of it, and one line more.
use mathlib.Core.Path.{◌≡◌, refl, sym, ap, ap₂, ◌∙◌}
use mathlib.Core.List.{[], ◌∷◌, ◌++◌, append-nil}
use Prim.Native.Nat.{ℕ, suc, ◌+◌}
use Rattle.meaning.specs.Words.{Bytes, for_each}
use Rattle.laws.proofs.Turns.{for_each-one, for_each-same}
use Rattle.graph.specs.Part.{newline, marks, part}
use Rattle.graph.specs.Table.{no_edges}
use Rattle.graph.specs.Reading.{SoFar, unread, line_read, lines_read}
use Rattle.graph.proofs.Cut.{part-whole}
use Rattle.readback.proofs.Appended.{marks-append, part_stays, part-goes-on, part-behind}

-- all lines of a text are ended, and this was read of them
pub record Read (text : Bytes) (now : SoFar) : Type 0 where
  pub whole : part newline (marks newline text) text ≡ []
  pub lines : lines_read text ≡ now

pub read_none : Read [] (record { state = unread; table = no_edges })
unfolding marks part lines_read for_each
read_none = record { whole = refl; lines = refl }

module _ (text line : Bytes) (now : SoFar) (read : Read text now) (one : marks newline line ≡ 0) where
  ended : Bytes
  ended = line ++ (newline ∷ [])

  last-mark : (l : Bytes) → marks newline (newline ∷ l) ≡ suc (marks newline l)
  unfolding marks
  last-mark l = refl

  no-mark : marks newline [] ≡ 0
  unfolding marks
  no-mark = refl

  stops : (l : Bytes) → part newline 0 (newline ∷ l) ≡ []
  unfolding part
  stops l = refl

  behind : part newline 1 (newline ∷ []) ≡ []
  unfolding part
  behind = refl

  ended-marks : marks newline ended ≡ 1
  unfolding ended
  ended-marks = marks-append newline line (newline ∷ []) ∙ ap₂ ◌+◌ one (last-mark [] ∙ ap suc no-mark)

  ended-first : part newline 0 ended ≡ line
  unfolding ended
  ended-first =
      ap (λ (k : ℕ). part newline k (line ++ (newline ∷ []))) (sym one)
      ∙ part-goes-on newline line (newline ∷ [])
      ∙ ap₂ ◌++◌ (ap (λ (k : ℕ). part newline k line) one ∙ part-whole newline line one) (stops [])
      ∙ append-nil line

  ended-rest : part newline 1 ended ≡ []
  unfolding ended
  ended-rest =
      ap (λ (k : ℕ). part newline (k + 1) (line ++ (newline ∷ []))) (sym one) ∙ part-behind newline 0 line (newline ∷ []) ∙ behind

  all : Bytes
  all = text ++ ended

  step : Bytes → ℕ → SoFar → SoFar
  step t k so = line_read so (part newline k t)

  start : SoFar
  start = record { state = unread; table = no_edges }

  all-marks : marks newline all ≡ marks newline text + 1
  unfolding all
  all-marks = marks-append newline text ended ∙ ap (λ (k : ℕ). marks newline text + k) ended-marks

  new_line : part newline (marks newline text) all ≡ line
  unfolding all
  new_line = part-goes-on newline text ended ∙ ap₂ ◌++◌ read.whole ended-first

  by-steps : (t : Bytes) → lines_read t ≡ for_each (marks newline t) (step t) start
  unfolding lines_read step start
  by-steps t = refl

  old-lines : for_each (marks newline text) (step all) start ≡ for_each (marks newline text) (step text) start
  unfolding step all
  old-lines =
      for_each-same (marks newline text) (step all) (step text) start
      (λ k h so. ap (line_read so) (part_stays newline k text ended h))

  one-step : (so : SoFar) → step all (marks newline text) so ≡ line_read so line
  unfolding step
  one-step so = ap (line_read so) new_line

  -- one line more
  pub read-line : Read (text ++ (line ++ (newline ∷ []))) (line_read now line)
  unfolding all ended
  read-line =
      record {
        whole = ap (λ (k : ℕ). part newline k all) all-marks ∙ part-behind newline 0 text ended ∙ ended-rest;
        lines =
            by-steps all
            ∙ ap (λ (k : ℕ). for_each k (step all) start) all-marks
            ∙ for_each-one (marks newline text) (step all) start
            ∙ one-step (for_each (marks newline text) (step all) start)
            ∙ ap (λ (so : SoFar). line_read so line) (old-lines ∙ sym (by-steps text) ∙ read.lines);
      }
