-- Which slots stand among those that pass: the slot at each place, if that slot passes, and no other number. Slot by slot: the first is told by its own
-- number, which is below the numbers of all that follow.
use mathlib.Core.Path.{◌≡◌, refl, sym, ap, ap₂, ◌∙◌}
use mathlib.Core.Bool.{Bool, true, false, cond, ◌&&◌, ◌||◌}
use mathlib.Core.List.{List, [], ◌∷◌, ◌++◌}
use Prim.Native.Nat.{ℕ, zero, suc, ◌+◌, ◌≤◌, ◌<◌}
use native.Mathlib.Nat.{not-suc-le-zero}
use native.Mathlib.Numerals.{add-one}
use native.Mathlib.Decide.{dec_lt}
use native.Mathlib.Omega.{arith}
use lib.Dec.{eqb, ltb}
use lib.ListN.{length, get_or, get_or-eq_default}
use borrow.Author.Tests.{lt-ltb, le-ltb, eq-eqb, ne_eqb}
use Rattle.meaning.specs.Words.{some}
use Rattle.meaning.specs.Sheet.{parent_of}
use Rattle.meaning.specs.Plan.{slots_of_plan}
use Rattle.meaning.specs.Book.{among, some_sender, slots_where, sends, hears}
use Rattle.laws.proofs.Turns.{none-some}

-- some number passes: the first, or one behind it
some-behind : (n : ℕ) (test : ℕ → Bool) → some (suc n) test ≡ (test 0 || some n (λ k. test (suc k)))
unfolding some
some-behind zero test = none (test 0)
  where
    none : (b : Bool) → (false || b) ≡ (b || false)
    none true = refl
    none false = refl
some-behind (suc n) test = ap (λ (b : Bool). b || test (suc n)) (some-behind n test) ∙ turn (test 0) (some n (λ k. test (suc k))) (test (suc n))
  where
    turn : (a b c : Bool) → ((a || b) || c) ≡ (a || (b || c))
    turn true b c = refl
    turn false b c = refl

among_next : (k x : ℕ) (l : List ℕ) → among k (x ∷ l) ≡ (eqb x k || among k l)
among_next k x l = some-behind (length l) (λ i. eqb (get_or (x ∷ l) i 0) k)

-- a slot's own number, and those behind
among_one : (b : Bool) (k at : ℕ) (l : List ℕ) → among k (cond b (at ∷ []) [] ++ l) ≡ (b && eqb at k || among k l)
among_one true k at l = among_next k at l
among_one false k at l = refl

-- every number of the list is at least `first` and below `end`
abbrev Within : ℕ → ℕ → List ℕ → Type 0
Within first end l = (i : ℕ) → i < length l → (first ≤ get_or l i 0) × (get_or l i 0 < end)

within-one : (b : Bool) (first end : ℕ) (l : List ℕ) → first < end → Within (first + 1) end l → Within first end (cond b (first ∷ []) [] ++ l)
within-one true first end l below later zero h = (omega arith, below)
within-one true first end l below later (suc i) h = let so = later i (omega arith) in (omega (arith, so.0), so.1)
within-one false first end l below later i h = let so = later i h in (omega (arith, so.0), so.1)

-- each number of the list is below the next
abbrev Rises : List ℕ → Type 0
Rises l = (i : ℕ) → suc i < length l → get_or l i 0 < get_or l (suc i) 0

rises-one : (b : Bool) (first end : ℕ) (l : List ℕ) → Within (first + 1) end l → Rises l → Rises (cond b (first ∷ []) [] ++ l)
rises-one true first end l later rises zero h = omega (arith, (later 0 (omega arith)).0)
rises-one true first end l later rises (suc i) h = rises i (omega arith)
rises-one false first end l later rises i h = rises i h

module _ (passes : List ℕ → Bool) where
  -- every number is that of one of the slots
  pub where_below : (first : ℕ) (slots : List (List ℕ)) (i : ℕ) → i < length (slots_where passes first slots)
      → (first ≤ get_or (slots_where passes first slots) i 0) × (get_or (slots_where passes first slots) i 0 < first + length slots)
  unfolding slots_where
  where_below first [] i h = absurd (not-suc-le-zero h)
  where_below first (slot ∷ slots) i h =
      within-one (passes slot) first (first + suc (length slots)) (slots_where passes (first + 1) slots) (omega arith)
      (λ j l. let later = where_below (first + 1) slots j l in (later.0, omega (arith, later.1)))
      i h

  rising : (first : ℕ) (slots : List (List ℕ)) → Rises (slots_where passes first slots)
  unfolding slots_where
  rising first [] i h = absurd (not-suc-le-zero h)
  rising first (slot ∷ slots) i h =
      rises-one (passes slot) first (first + 1 + length slots) (slots_where passes (first + 1) slots) (where_below (first + 1) slots) (rising (first + 1) slots) i h

  -- the numbers rise
  pub where-rising : (first : ℕ) (slots : List (List ℕ)) (i : ℕ) → i + 1 < length (slots_where passes first slots)
      → get_or (slots_where passes first slots) i 0 < get_or (slots_where passes first slots) (i + 1) 0
  where-rising first slots i h = rw (add-one i) (rising first slots i (omega arith))

  -- no number before the first
  pub where-before : (first k : ℕ) (slots : List (List ℕ)) → k < first → among k (slots_where passes first slots) ≡ false
  where-before first k slots h =
      let l : List ℕ = slots_where passes first slots in
      none-some (length l) (λ i. eqb (get_or l i 0) k) (λ i hi. ne_eqb (get_or l i 0) k (λ e. omega (arith, e, (where_below first slots i hi).0)))

  -- a number is among them exactly when the slot of that number is there and passes
  pub where-tells : (first k : ℕ) (slots : List (List ℕ))
      → among (first + k) (slots_where passes first slots) ≡ cond (ltb k (length slots)) (passes (get_or slots k [])) false
  unfolding slots_where some
  where-tells first k [] = ap (λ (b : Bool). cond b (passes []) false) (sym (le-ltb k 0 (omega arith)))
  where-tells first zero (slot ∷ slots) =
      among_one (passes slot) (first + 0) first (slots_where passes (first + 1) slots)
      ∙ ap₂ (λ (a b : Bool). passes slot && a || b) (eq-eqb first (first + 0) (omega arith)) (where-before (first + 1) (first + 0) slots (omega arith))
      ∙ only (passes slot)
      ∙ ap (λ (b : Bool). cond b (passes slot) false) (sym (lt-ltb 0 (suc (length slots)) (omega arith)))
    where
      only : (b : Bool) → (b && true || false) ≡ b
      only true = refl
      only false = refl
  where-tells first (suc k) (slot ∷ slots) =
      let next : first + suc k ≡ first + 1 + k = omega arith in
      among_one (passes slot) (first + suc k) first (slots_where passes (first + 1) slots)
      ∙ ap₂ (λ (a b : Bool). passes slot && a || b) (ne_eqb first (first + suc k) (λ e. omega arith))
      (ap (λ (n : ℕ). among n (slots_where passes (first + 1) slots)) next ∙ where-tells (first + 1) k slots)
      ∙ other (passes slot) (cond (ltb k (length slots)) (passes (get_or slots k [])) false)
      ∙ ap (λ (b : Bool). cond b (passes (get_or slots k [])) false) (same (dec_lt k (length slots)))
    where
      other : (b c : Bool) → (b && false || c) ≡ c
      other true c = refl
      other false c = refl

      same : Dec (k < length slots) → ltb k (length slots) ≡ ltb (suc k) (suc (length slots))
      same (yes l) = lt-ltb k (length slots) l ∙ sym (lt-ltb (suc k) (suc (length slots)) (omega arith))
      same (no l) = le-ltb k (length slots) (omega arith) ∙ sym (le-ltb (suc k) (suc (length slots)) (omega arith))

  -- where no slot without a sender passes, also behind the last slot
  where-told : (first k : ℕ) (slots : List (List ℕ)) → passes [] ≡ false → among (first + k) (slots_where passes first slots) ≡ passes (get_or slots k [])
  where-told first k slots none = where-tells first k slots ∙ go (dec_lt k (length slots))
    where
      go : Dec (k < length slots) → cond (ltb k (length slots)) (passes (get_or slots k [])) false ≡ passes (get_or slots k [])
      go (yes l) = ap (λ (b : Bool). cond b (passes (get_or slots k [])) false) (lt-ltb k (length slots) l)
      go (no l) =
          let past : length slots ≤ k = omega arith in
          ap (λ (b : Bool). cond b (passes (get_or slots k [])) false) (le-ltb k (length slots) past)
          ∙ sym none
          ∙ ap passes (sym (get_or-eq_default slots [] past))

-- slot k + 1 is among those in which v sends exactly when v is a sender of that slot; where the plan has no such slot, neither
pub sends-tell : (plan : List ℕ) (v k : ℕ) → among (k + 1) (sends plan v) ≡ among v (get_or (slots_of_plan plan) k [])
unfolding some
sends-tell plan v k =
    let at : k + 1 ≡ 1 + k = omega arith in
    ap (λ (n : ℕ). among n (sends plan v)) at ∙ where-told (some_sender (λ u. eqb u v)) 1 k (slots_of_plan plan) refl

-- and among those in which it hears exactly when a child of v is
pub hears-tell : (s plan : List ℕ) (v k : ℕ) → among (k + 1) (hears s plan v) ≡ some_sender (λ u. eqb (parent_of s u) v) (get_or (slots_of_plan plan) k [])
unfolding some
hears-tell s plan v k =
    let at : k + 1 ≡ 1 + k = omega arith in
    ap (λ (n : ℕ). among n (hears s plan v)) at ∙ where-told (some_sender (λ u. eqb (parent_of s u) v)) 1 k (slots_of_plan plan) refl

-- slots count from 1
pub no-slot-0 : (s plan : List ℕ) (v : ℕ) → (among 0 (sends plan v) ≡ false) × (among 0 (hears s plan v) ≡ false)
no-slot-0 s plan v = (
  where-before (some_sender (λ u. eqb u v)) 1 0 (slots_of_plan plan) (omega arith),
  where-before (some_sender (λ u. eqb (parent_of s u) v)) 1 0 (slots_of_plan plan) (omega arith),
)
