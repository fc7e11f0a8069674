-- Bytes written one part after the other, each of an even number of bytes: a byte is known by its part and its place there, by recursion on how many parts
-- there are, and by whether a part is the last.
use mathlib.Core.Path.{◌≡◌, refl, sym, ap, ap₂, ◌∙◌}
use mathlib.Core.List.{List, [], ◌∷◌, ◌++◌}
use mathlib.Core.Logic.{⊎_elim}
use Prim.Native.Nat.{ℕ, zero, suc, ◌+◌, ◌*◌, ◌≤◌, ◌<◌}
use native.Mathlib.Nat.{not-suc-le-zero}
use native.Mathlib.Numerals.{add-one}
use native.Mathlib.Omega.{arith}
use lib.ListN.{length, get_or, length-append, get_or-append}
use lib.Seq.{get_or-append-add}
use Rattle.meaning.specs.Words.{sum, in_turn}
use Rattle.laws.proofs.Turns.{below-or-last, sum-constant}

-- more parts have a larger sum
sum-grows : (c : ℕ → ℕ) (a m : ℕ) → a ≤ m → sum a c ≤ sum m c
unfolding sum
sum-grows c a zero h = let none : a ≡ 0 = omega arith in omega (arith, ap (λ (k : ℕ). sum k c) none)
sum-grows c a (suc m) h =
    ⊎_elim (λ (l : a < suc m). omega (arith, sum-grows c a m (omega arith))) (λ (l : a ≡ suc m). omega (arith, ap (λ (k : ℕ). sum k c) l))
    (below-or-last a (suc m) (omega arith))

-- the part before and the part itself are within the sum
pub sum-within : (c : ℕ → ℕ) (a m : ℕ) → a < m → sum a c + c a ≤ sum m c
unfolding sum
sum-within c a m h = sum-grows c (suc a) m h

-- bytes in turn, twice c j of them from j
module _ (bytes : ℕ → List ℕ) (c : ℕ → ℕ) where
  pub in_turn-length : (m : ℕ) → ((j : ℕ) → j < m → length (bytes j) ≡ 2 * c j) → length (in_turn m bytes) ≡ 2 * sum m c
  unfolding in_turn sum
  in_turn-length zero long = refl
  in_turn-length (suc m) long =
      omega (arith, length-append (in_turn m bytes) (bytes m), in_turn-length m (λ j h. long j (omega arith)), long m (omega arith))

  -- byte i from a
  pub in_turn-at : (m : ℕ) → ((j : ℕ) → j < m → length (bytes j) ≡ 2 * c j)
      → (a i : ℕ) → a < m → i < 2 * c a → get_or (in_turn m bytes) (2 * sum a c + i) 0 ≡ get_or (bytes a) i 0
  unfolding in_turn
  in_turn-at zero long a i h l = absurd (not-suc-le-zero h)
  in_turn-at (suc m) long a i h l =
      ⊎_elim
      (λ (below : a < m).
      get_or-append (in_turn m bytes) (bytes m) 0 (2 * sum a c + i) (omega (arith, before, sum-within c a m below)) ∙ in_turn-at m less a i below l)
      (λ (last : a ≡ m).
      let at : 2 * sum a c + i ≡ length (in_turn m bytes) + i = omega (arith, before, ap (λ (k : ℕ). sum k c) last) in
      ap (λ (k : ℕ). get_or (in_turn m bytes ++ bytes m) k 0) at
      ∙ get_or-append-add (in_turn m bytes) (bytes m) i 0
      ∙ ap (λ (k : ℕ). get_or (bytes k) i 0) (sym last))
      (below-or-last a m h)
    where
      less : (j : ℕ) → j < m → length (bytes j) ≡ 2 * c j
      less j k = long j (omega arith)

      before : length (in_turn m bytes) ≡ 2 * sum m c
      before = in_turn-length m less

-- one part more
pub in-turn-one : (k : ℕ) (f : ℕ → List ℕ) → in_turn (k + 1) f ≡ in_turn k f ++ f k
unfolding in_turn
in-turn-one k f = rw (add-one k) refl

-- a part and those before it are no longer than all
pub turn-room : (f : ℕ → List ℕ) (k n : ℕ) → k < n → length (in_turn k f) + length (f k) ≤ length (in_turn n f)
unfolding in_turn
turn-room f k zero h = absurd (not-suc-le-zero h)
turn-room f k (suc n) h =
    ⊎_elim (λ (l : k < n). omega (arith, turn-room f k n l, length-append (in_turn n f) (f n)))
    (λ (l : k ≡ n).
    omega (arith, ap (λ (j : ℕ). length (in_turn j f)) l, ap (λ (j : ℕ). length (f j)) l, length-append (in_turn n f) (f n)))
    (below-or-last k n h)

-- parts that are the same one by one
pub turn-same : (n : ℕ) (f g : ℕ → List ℕ) → ((k : ℕ) → k < n → f k ≡ g k) → in_turn n f ≡ in_turn n g
unfolding in_turn
turn-same zero f g same = refl
turn-same (suc n) f g same = ap₂ ◌++◌ (turn-same n f g (λ k h. same k (omega arith))) (same n (omega arith))

-- two bytes each
module _ (first second : ℕ → ℕ) where
  abbrev two : ℕ → List ℕ
  two k = first k ∷ second k ∷ []

  -- the bytes of n parts, each with its first and its second
  abbrev pub two_by_two : ℕ → List ℕ
  two_by_two n = in_turn n (λ k. first k ∷ second k ∷ [])

  pub two-length : (n : ℕ) → length (two_by_two n) ≡ 2 * n
  two-length n = omega (arith, in_turn-length two (λ _. 1) n (λ j h. refl), sum-constant n 1)

  two_at : (n k i : ℕ) → k < n → i < 2 → get_or (two_by_two n) (2 * k + i) 0 ≡ get_or (two k) i 0
  two_at n k i h l =
      let at : 2 * k + i ≡ 2 * sum k (λ _. 1) + i = omega (arith, sum-constant k 1) in
      ap (λ (j : ℕ). get_or (two_by_two n) j 0) at ∙ in_turn-at two (λ _. 1) n (λ j _. refl) k i h (omega arith)

  -- place 2k has the first byte of part k, and the next place its second
  pub two-first : (n k : ℕ) → k < n → get_or (two_by_two n) (2 * k) 0 ≡ first k
  two-first n k h = let at : 2 * k ≡ 2 * k + 0 = omega arith in ap (λ (j : ℕ). get_or (two_by_two n) j 0) at ∙ two_at n k 0 h (omega arith)

  pub two-second : (n k : ℕ) → k < n → get_or (two_by_two n) (2 * k + 1) 0 ≡ second k
  two-second n k h = two_at n k 1 h (omega arith)
