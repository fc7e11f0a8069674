-- A piece line by line: what is left of it answers the whole. A line that is ended is read and left behind, and the last is what stands behind the last newline.
use mathlib.Core.Path.{◌≡◌, refl, sym, ap, ap₂, ◌∙◌}
use Prim.Native.Nat.{ℕ, zero, suc, ◌+◌, ◌-◌, ◌≤◌, ◌<◌}
use native.Mathlib.Omega.{arith}
use lib.ListN.{length, take, drop, length-drop, drop_of_length-le}
use lib.Seq.{take_all, drop-drop, length-take-le}
use Rattle.meaning.specs.Words.{Bytes, for_each}
use Rattle.laws.proofs.Turns.{for_each-same}
use Rattle.graph.specs.declared.Reading.{Reading}
use Rattle.graph.specs.Part.{newline, marks, part}
use Rattle.graph.specs.Table.{Table, no_edges}
use Rattle.graph.specs.Reading.{SoFar, unread, line_read, lines_read, last_read, ended, graph_read}
use Rattle.graph.proofs.Cut.{part-whole, marks-none, part-within, take_part, marks-behind, parts-behind}
use Rattle.parse.specs.Piece.{behind_last, last_begins, lines_after}

-- the first of the turns, apart
for_each-first : {A : Type 0} (n : ℕ) (step : ℕ → A → A) (start : A) → for_each (suc n) step start ≡ for_each n (λ k. step (suc k)) (step 0 start)
unfolding for_each
for_each-first zero step start = refl
for_each-first (suc n) step start = ap (step (suc n)) (for_each-first n step start)

-- the lines of what is left
abbrev lines_of : Bytes → ℕ → SoFar → SoFar
lines_of rest k now = line_read now (part newline k rest)

-- a line is ended
module _ (rest : Bytes) (n : ℕ) (long : n ≡ length (part newline 0 rest)) (more : n < length rest) where
  abbrev later : Bytes
  later = drop (n + 1) rest

  many : marks newline rest ≡ suc (marks newline later)
  many = marks-behind newline rest n long more

  behind-one : behind_last rest ≡ behind_last later
  behind-one = ap (λ (m : ℕ). part newline m rest) many ∙ parts-behind newline rest n long more (marks newline later)

  read_one : (now : SoFar) → lines_after now rest ≡ lines_after (line_read now (take n rest)) later
  unfolding lines_after
  read_one now =
      ap (λ (m : ℕ). for_each m (lines_of rest) now) many
      ∙ for_each-first (marks newline later) (lines_of rest) now
      ∙ ap (λ (u : Bytes). for_each (marks newline later) (λ k. lines_of rest (suc k)) (line_read now u)) (sym (take_part newline rest n long))
      ∙ for_each-same (marks newline later) (λ k. lines_of rest (suc k)) (lines_of later) (line_read now (take n rest))
      (λ k _ s. ap (line_read s) (parts-behind newline rest n long more k))

-- no line is ended
module _ (rest : Bytes) (none : marks newline rest ≡ 0) where
  behind-whole : behind_last rest ≡ rest
  behind-whole = ap (λ (m : ℕ). part newline m rest) none ∙ part-whole newline rest none

  read_none : (now : SoFar) → lines_after now rest ≡ now
  unfolding lines_after for_each
  read_none now = ap (λ (m : ℕ). for_each m (lines_of rest) now) none

-- what is lent from a place on
pub lent : (text : Bytes) (at : ℕ) → take (length text - at) (drop at text) ≡ drop at text
lent text at = take_all (length text - at) (drop at text) (omega (arith, length-drop at text))

-- the bytes before the first newline are as many as they are
pub line-long : (rest : Bytes) (n : ℕ) → n ≡ length (part newline 0 rest) → n ≡ length (take n rest)
line-long rest n is = sym (length-take-le n rest (omega (arith, part-within newline rest)))

-- as far as a place in the piece; all is what the piece answers
pub record Going (piece : Bytes) (all : SoFar) (table : Table) (read : Reading) (at : ℕ) : Type 0 where
  pub within : at ≤ length piece
  pub left : lines_after (record { state = read; table = table }) (drop at piece) ≡ all
  pub behind : behind_last (drop at piece) ≡ behind_last piece

pub going-starts : (piece : Bytes) (table : Table) (read : Reading) → Going piece (lines_after (record { state = read; table = table }) piece) table read 0
going-starts piece table read = record { within = omega arith; left = refl; behind = refl }

-- what is answered at a place behind which no line is ended
abbrev Answered : (piece : Bytes) (all : SoFar) (table : Table) (read : Reading) (at : ℕ) → Type 0
Answered piece all table read at = (read ≡ all.state) × ((at ≡ last_begins piece) × ((drop at piece ≡ behind_last piece) × (table ≡ all.table)))

module _ (piece : Bytes) (all : SoFar) (table : Table) (read : Reading) (at : ℕ) (so : Going piece all table read at) where
  abbrev now : SoFar
  now = record { state = read; table = table }

  answered : marks newline (drop at piece) ≡ 0 → Answered piece all table read at
  answered none =
      let same : now ≡ all = sym (read_none (drop at piece) none now) ∙ so.left in
      let last : drop at piece ≡ behind_last piece = sym (behind-whole (drop at piece) none) ∙ so.behind in (
        ap (λ (s : SoFar). s.state) same,
        (omega (arith, so.within, length-drop at piece, ap length last), (last, ap (λ (s : SoFar). s.table) same)),
      )

  -- no byte is left
  pub going-ends : length piece ≤ at → Answered piece all table read at
  unfolding marks
  going-ends done = answered (ap (marks newline) (drop_of_length-le piece done))

  module _ (rest : Bytes) (rest_is : rest ≡ drop at piece) (n : ℕ) (n_is : n ≡ length (part newline 0 rest)) where
    -- the last line is not ended
    pub going-stops : n ≡ length rest → Answered piece all table read at
    going-stops whole = answered (ap (marks newline) (sym rest_is) ∙ marks-none newline rest (sym n_is ∙ whole))

    -- the next line begins within the piece, or at its end
    pub next-within : (n ≡ length rest → ⊥) → at + (n + 1) ≤ length piece
    next-within more = omega (arith, part-within newline rest, ap length rest_is ∙ length-drop at piece, so.within)

    -- one line more
    pub going_on : (n ≡ length rest → ⊥) → (table' : Table) (read' : Reading)
        → read' ≡ (line_read now (take n rest)).state → table' ≡ (line_read now (take n rest)).table → Going piece all table' read' (at + (n + 1))
    going_on more table' read' s t =
        let short : n < length rest = omega (arith, part-within newline rest) in
        record {
          within = next-within more;
          left =
              ap₂ (λ (r : Reading) (u : Table). lines_after (record { state = r; table = u }) (drop (at + (n + 1)) piece)) s t
              ∙ ap (lines_after (line_read now (take n rest))) further
              ∙ sym (read_one rest n n_is short now)
              ∙ ap (lines_after now) rest_is
              ∙ so.left;
          behind = ap behind_last further ∙ sym (behind-one rest n n_is short) ∙ ap behind_last rest_is ∙ so.behind;
        }
      where
        further : drop (at + (n + 1)) piece ≡ drop (n + 1) rest
        further = sym (drop-drop (n + 1) at piece) ∙ ap (drop (n + 1)) (sym rest_is)

-- a whole text: its lines are read from before the first, then what stands behind them, and then it has ended
module _ (text : Bytes) (start : Reading) (table : Table) (s : start ≡ unread) (t : table ≡ no_edges) where
  abbrev lines : SoFar
  lines = lines_after (record { state = start; table = table }) text

  begun : lines ≡ lines_read text
  unfolding lines_after lines_read
  begun = ap₂ (λ (r : Reading) (u : Table). lines_after (record { state = r; table = u }) text) s t

  pub text-ends : (read : Reading) → read ≡ lines.state → (table' : Table) → table' ≡ lines.table → (behind : Bytes) → behind ≡ behind_last text
      → (last : Reading) → last ≡ last_read read behind → ended (record { state = last; table = table' }) ≡ graph_read text
  unfolding graph_read
  text-ends read r table' u behind b last l =
      ap₂ (λ (x : Reading) (v : Table). ended (record { state = x; table = v }))
      (l ∙ ap₂ last_read (r ∙ ap (λ (x : SoFar). x.state) begun) b)
      (u ∙ ap (λ (x : SoFar). x.table) begun)
