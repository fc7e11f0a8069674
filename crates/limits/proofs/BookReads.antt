-- A wake book read back: where the entry of each probe begins, and the two lists that stand there. Two bytes of a number read as that number; a list behind
-- other bytes reads as that list, and ends where the next begins; so entry by entry.
use mathlib.Core.Path.{◌≡◌, refl, sym, ap, ap₂, ◌∙◌}
use mathlib.Core.List.{List, [], ◌∷◌, ◌++◌, append_assoc, append-nil}
use mathlib.Core.Logic.{⊎_elim}
use Prim.Native.Nat.{ℕ, zero, suc, ◌+◌, ◌*◌, ◌≤◌, ◌<◌}
use native.Mathlib.Nat.{le_refl, not-suc-le-zero, div-add-mod}
use native.Mathlib.Omega.{arith}
use lib.ListN.{length, get_or, length-append}
use lib.Seq.{get_or-append-add}
use Rattle.meaning.specs.Words.{for_each, tab, in_turn}
use Rattle.meaning.specs.Sheet.{two_at, probe_count}
use Rattle.meaning.specs.Book.{sends, hears, two_each, counted, wake_book, list_at, behind_list, entry_at}
use Rattle.laws.proofs.Turns.{below-or-last, tab-same, tab-of}
use Rattle.limits.proofs.BookRoom.{counted-length}

-- numbers of two bytes each read as they are
two-each-at : (l rest : List ℕ) (i : ℕ) → i < length l → two_at (two_each l ++ rest) (2 * i) ≡ get_or l i 0
unfolding two_each
two-each-at [] rest i h = absurd (not-suc-le-zero h)
two-each-at (x ∷ l) rest zero h = div-add-mod x 256
two-each-at (x ∷ l) rest (suc i) h =
    let high : 2 * suc i ≡ suc (suc (2 * i)) = omega arith in
    let low : 2 * suc i + 1 ≡ suc (suc (2 * i + 1)) = omega arith in
    ap₂ (λ (a b : ℕ). 256 * a + b) (ap (λ (n : ℕ). get_or (two_each (x ∷ l) ++ rest) n 0) high) (ap (λ (n : ℕ). get_or (two_each (x ∷ l) ++ rest) n 0) low)
    ∙ two-each-at l rest i (omega arith)

-- a list that stands in a book behind other bytes
module _ (book before slots rest : List ℕ) (stands : book ≡ before ++ (counted slots ++ rest)) where
  number_at : (i : ℕ) → i < suc (length slots) → two_at book (length before + 2 * i) ≡ get_or (length slots ∷ slots) i 0
  number_at i h =
      let low : length before + 2 * i + 1 ≡ length before + (2 * i + 1) = omega arith in
      ap (λ (b : List ℕ). two_at b (length before + 2 * i)) stands
      ∙ ap₂ (λ (a b : ℕ). 256 * a + b) (get_or-append-add before (counted slots ++ rest) (2 * i) 0)
      (ap (λ (n : ℕ). get_or (before ++ (counted slots ++ rest)) n 0) low ∙ get_or-append-add before (counted slots ++ rest) (2 * i + 1) 0)
      ∙ two-each-at (length slots ∷ slots) rest i h

  count_at : two_at book (length before) ≡ length slots
  count_at = let here : length before ≡ length before + 2 * 0 = omega arith in ap (two_at book) here ∙ number_at 0 (omega arith)

  list_at_lem : list_at book (length before) ≡ slots
  list_at_lem =
      ap (λ (n : ℕ). tab n (λ i. two_at book (length before + 2 + 2 * i))) count_at
      ∙ tab-same (length slots) (λ i. two_at book (length before + 2 + 2 * i)) (λ i. get_or slots i 0)
      (λ i h. let there : length before + 2 + 2 * i ≡ length before + 2 * suc i = omega arith in ap (two_at book) there ∙ number_at (suc i) (omega arith))
      ∙ tab-of (length slots) slots 0 refl

  behind-at : behind_list book (length before) ≡ length (before ++ counted slots)
  behind-at = omega (arith, count_at, length-append before (counted slots), counted-length slots)

-- the parts before one, that part, and what is behind it
parted : (n : ℕ) (f : ℕ → List ℕ) (k : ℕ) → k < n → (rest : List ℕ) × (in_turn n f ≡ in_turn k f ++ (f k ++ rest))
unfolding in_turn
parted zero f k h = absurd (not-suc-le-zero h)
parted (suc n) f k h =
    ⊎_elim
    (λ (l : k < n).
    let before = parted n f k l in (
      before.0 ++ f n,
      ap (λ (b : List ℕ). b ++ f n) before.1
          ∙ append_assoc (in_turn k f) (f k ++ before.0) (f n)
          ∙ ap (λ (b : List ℕ). in_turn k f ++ b) (append_assoc (f k) before.0 (f n)),
    ))
    (λ (l : k ≡ n). ([], ap (λ (j : ℕ). in_turn j f ++ f j) (sym l) ∙ ap (λ (b : List ℕ). in_turn k f ++ b) (sym (append-nil (f k)))))
    (below-or-last k n h)

module _ (s plan : List ℕ) where
  -- the bytes of probe k + 2
  abbrev pub entries : ℕ → List ℕ
  entries k = counted (sends plan (k + 2)) ++ counted (hears s plan (k + 2))

  -- what stands in the book around the entry of probe k + 2
  module _ (k : ℕ) (h : k < probe_count s) where
    abbrev before : List ℕ
    before = in_turn k entries

    abbrev behind : List ℕ
    behind = (parted (probe_count s) entries k h).0

    first-stands : wake_book s plan ≡ before ++ (counted (sends plan (k + 2)) ++ (counted (hears s plan (k + 2)) ++ behind))
    unfolding wake_book
    first-stands =
        (parted (probe_count s) entries k h).1
        ∙ ap (λ (b : List ℕ). before ++ b) (append_assoc (counted (sends plan (k + 2))) (counted (hears s plan (k + 2))) behind)

    second-stands : wake_book s plan ≡ (before ++ counted (sends plan (k + 2))) ++ (counted (hears s plan (k + 2)) ++ behind)
    second-stands = first-stands ∙ sym (append_assoc before (counted (sends plan (k + 2))) (counted (hears s plan (k + 2)) ++ behind))

    first-behind : behind_list (wake_book s plan) (length before) ≡ length (before ++ counted (sends plan (k + 2)))
    first-behind = behind-at (wake_book s plan) before (sends plan (k + 2)) (counted (hears s plan (k + 2)) ++ behind) first-stands

    second-behind : behind_list (wake_book s plan) (length (before ++ counted (sends plan (k + 2)))) ≡ length (before ++ entries k)
    second-behind =
        behind-at (wake_book s plan) (before ++ counted (sends plan (k + 2))) (hears s plan (k + 2)) behind second-stands
        ∙ ap length (append_assoc before (counted (sends plan (k + 2))) (counted (hears s plan (k + 2))))

  -- an entry begins behind those before it
  pub entry-begins : (k : ℕ) → k ≤ probe_count s → entry_at (wake_book s plan) k ≡ length (in_turn k entries)
  unfolding entry_at for_each in_turn
  entry-begins zero h = refl
  entry-begins (suc k) h =
      ap (λ (at : ℕ). behind_list (wake_book s plan) (behind_list (wake_book s plan) at)) (entry-begins k (omega arith))
      ∙ ap (behind_list (wake_book s plan)) (first-behind k h)
      ∙ second-behind k h

  -- behind the last entry the book ends
  pub book-ends : entry_at (wake_book s plan) (probe_count s) ≡ length (wake_book s plan)
  unfolding wake_book
  book-ends = entry-begins (probe_count s) (le_refl (probe_count s))

  module _ (k : ℕ) (h : k < probe_count s) where
    -- its first list has the slots in which the probe sends
    pub sends-read : list_at (wake_book s plan) (entry_at (wake_book s plan) k) ≡ sends plan (k + 2)
    sends-read =
        ap (list_at (wake_book s plan)) (entry-begins k (omega arith))
        ∙ list_at_lem (wake_book s plan) (before k h) (sends plan (k + 2)) (counted (hears s plan (k + 2)) ++ behind k h) (first-stands k h)

    -- and the list behind it those in which a child sends to it
    pub hears-read : list_at (wake_book s plan) (behind_list (wake_book s plan) (entry_at (wake_book s plan) k)) ≡ hears s plan (k + 2)
    hears-read =
        ap (λ (at : ℕ). list_at (wake_book s plan) (behind_list (wake_book s plan) at)) (entry-begins k (omega arith))
        ∙ ap (list_at (wake_book s plan)) (first-behind k h)
        ∙ list_at_lem (wake_book s plan) (before k h ++ counted (sends plan (k + 2))) (hears s plan (k + 2)) (behind k h) (second-stands k h)
