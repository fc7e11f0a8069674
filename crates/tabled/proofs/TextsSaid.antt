-- Texts said behind what is said before them, turn by turn; where all that are left are empty, none is left: by recursion on how many.
use mathlib.Core.Path.{◌≡◌, refl, sym, ap, ◌∙◌}
use mathlib.Core.List.{List, [], ◌++◌, append-nil}
use Prim.Native.Nat.{ℕ, zero, suc, ◌+◌, ◌≤◌, ◌<◌, min}
use native.Mathlib.Numerals.{add-one}
use native.Mathlib.Decide.{dec_le}
use native.Mathlib.Omega.{arith}
use borrow.Author.Tests.{lt-ltb, le-ltb}
use Rattle.lines.specs.Text.{Says}
use Rattle.lines.proofs.Saying.{say-more, say-nothing, say_same}
use Rattle.graph.specs.Drawing.{texts}
use Rattle.graph.specs.Table.{Table}
use Rattle.tabled.specs.Tabled.{vertex_line, vertex_text}
use lib.ListN.{get_or}

texts-one : (k : ℕ) (f : ℕ → List ℕ) → texts (k + 1) f ≡ texts k f ++ f k
unfolding texts
texts-one k f = rw (add-one k) refl

-- before the first turn, a turn that says, and one that does not
pub texts-start : {room : ℕ} {text bytes mid : List ℕ} (f : ℕ → List ℕ) → Says room text bytes mid → Says room mid (texts 0 f) mid
unfolding texts
texts-start f = say-nothing

pub texts-next : {room : ℕ} {text mid after : List ℕ} (f : ℕ → List ℕ) (k : ℕ) → Says room text (texts k f) mid → Says room mid (f k) after
    → Says room text (texts (k + 1) f) after
texts-next f k said more = say_same (sym (texts-one k f)) (say-more said more)

pub texts-skip : {room : ℕ} {text mid : List ℕ} (f : ℕ → List ℕ) (k : ℕ) → f k ≡ [] → Says room text (texts k f) mid → Says room text (texts (k + 1) f) mid
texts-skip f k none = say_same (sym (texts-one k f ∙ ap (λ (l : List ℕ). texts k f ++ l) none ∙ append-nil (texts k f)))

-- all texts, where those behind place k are empty
texts-none : (k n : ℕ) (f : ℕ → List ℕ) → k ≤ n → ((i : ℕ) → k ≤ i → f i ≡ []) → texts n f ≡ texts k f
unfolding texts
texts-none k zero f h none = let last : 0 ≡ k = omega arith in ap (λ (i : ℕ). texts i f) last
texts-none k (suc n) f h none = go (dec_le k n) (λ before. texts-none k n f before none)
  where
    go : Dec (k ≤ n) → (k ≤ n → texts n f ≡ texts k f) → texts (suc n) f ≡ texts k f
    go (yes before) rest = ap (λ (l : List ℕ). texts n f ++ l) (none n before) ∙ append-nil (texts n f) ∙ rest before
    go (no behind) rest = let last : suc n ≡ k = omega arith in ap (λ (i : ℕ). texts i f) last

-- a vertex that there is, and one that there is not
pub vertex-is : (vertices k : ℕ) (table : Table) → k < vertices → vertex_text vertices table k ≡ vertex_line (k + 1) (get_or table (k + 2) [])
vertex-is vertices k table h = rw (lt-ltb k vertices h) refl

vertex-none : (vertices k : ℕ) (table : Table) → vertices ≤ k → vertex_text vertices table k ≡ []
vertex-none vertices k table h = rw (le-ltb k vertices h) refl

-- the lines of all vertices, of which 63 are shown at most
pub vertices-all : (vertices k : ℕ) (table : Table) → k ≡ min vertices 63 → texts k (vertex_text vertices table) ≡ texts 63 (vertex_text vertices table)
vertices-all vertices k table few = go (dec_le 63 vertices)
  where
    go : Dec (63 ≤ vertices) → texts k (vertex_text vertices table) ≡ texts 63 (vertex_text vertices table)
    go (yes many) = let all : k ≡ 63 = grind (arith, few, many) in ap (λ (i : ℕ). texts i (vertex_text vertices table)) all
    go (no less) =
        let last : k ≡ vertices = grind (arith, few, less) in
        sym (texts-none k 63 (vertex_text vertices table) (omega arith) (λ i h. vertex-none vertices i table (omega arith)))
