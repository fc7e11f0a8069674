-- An answer that stands in a line of one's own is copied from there as a whole, or not at all.
use mathlib.Core.Path.{◌≡◌, sym, ap, ◌∙◌, subst}
use mathlib.Core.List.{List, []}
use Prim.Native.Nat.{ℕ, ◌+◌, ◌≤◌}
use native.Mathlib.Nat.{zero-add}
use native.Mathlib.Decide.{dec_le}
use native.Mathlib.Omega.{arith}
use lib.ListN.{length, take, drop, replicate, length-replicate}
use lib.Seq.{sets-eq, take_at, length-take-le}
use Rattle.lines.specs.Text.{Says}
use Rattle.lines.specs.Line.{Written, fitting, Put}
use Rattle.lines.specs.Fits.{Fits}
use Rattle.lines.proofs.Putting.{put-long, put-short, put-fitted}
use Rattle.lines.proofs.Saying.{said-all}
use Rattle.lines.proofs.Lined.{Answered, answered-short, answered-put}

-- a text that is copied, or that does not fit
pub copied : {out after : List ℕ} {r : ℕ} (text : List ℕ) → Put out 0 (fitting out 0 text) after r → Answered out text after r
copied {out} {after} {r} text p = go (dec_le (length text) (length out))
  where
    go : Dec (length text ≤ length out) → Answered out text after r
    go (yes room) = answered-put room (put-fitted (omega (arith, room)) p)
    go (no short) =
        let none = put-short out 0 text (omega (arith, short)) in
        let same : out ≡ after = none.wrote ∙ sym p.wrote in
        let zero : 0 ≡ r = none.ends ∙ sym p.ends in
        let answer = answered-short out text (omega (arith, short)) in
        subst (Answered out text after) zero (subst (λ (l : List ℕ). Answered out text l 0) same answer)

-- what is said on an empty text, and has room: it is written
pub said-whole : {out after bytes before text : List ℕ} {r : ℕ} → length bytes ≤ 256 → before ≡ [] → Says 256 before bytes text → Written out text after r → Written out bytes after r
said-whole {out} {after} {bytes} {r = r} short none says = subst (λ (b : List ℕ). Written out b after r) (said-all short none says)

module _ {line text : List ℕ} {n size : ℕ} (short : length text ≤ size) (made : Fits (replicate size 0) 0 text line n) where
  -- the line as it is made
  abbrev blank : List ℕ
  blank = replicate size 0

  room : 0 + length text ≤ length blank
  room = omega (arith, short, length-replicate {A = ℕ} size 0)

  stands : Put blank 0 text line n
  stands = made.put room

  pub line-end : n ≤ length line
  line-end = omega (arith, stands.ends, put-long stands, room)

  pub line-counts : n ≡ length (take n line)
  line-counts = sym (length-take-le n line line-end)

  pub line-ends : n ≡ length text
  line-ends = stands.ends ∙ zero-add (length text)

  pub lent : take n line ≡ text
  lent =
      ap (take n) (stands.wrote ∙ sets-eq text blank 0 room)
      ∙ take_at text (drop (0 + length text) blank) n (sym line-ends)

  pub answered : {out after : List ℕ} {r : ℕ} → Put out 0 (fitting out 0 (take n line)) after r → Answered out text after r
  answered {out} {after} {r} p = copied text (subst (λ (b : List ℕ). Put out 0 (fitting out 0 b) after r) lent p)
