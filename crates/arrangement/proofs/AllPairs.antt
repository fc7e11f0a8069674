-- The list of all pairs goes by its parts, one for each lower node: a record is known by its part and its place there, and of two records the later stands
-- in a later part or later in the same.
use mathlib.Core.Path.{◌≡◌, refl, ap, ap₂, ◌∙◌, subst}
use mathlib.Core.Bool.{Bool, true, false, not, ◌&&◌, ◌||◌, and-false}
use mathlib.Core.List.{List, [], ◌∷◌}
use mathlib.Core.Logic.{◌⊎◌, inl, inr, ◌≢◌, ⊎_elim}
use Prim.Native.Nat.{ℕ, zero, suc, ◌+◌, ◌-◌, ◌*◌, ◌/◌, ◌≤◌, ◌<◌}
use native.Mathlib.Nat.{not-suc-le-zero, suc-mul, mul-suc}
use native.Mathlib.Decide.{dec_lt}
use native.Mathlib.Omega.{arith}
use lib.Dec.{eqb, ltb, leb}
use lib.ListN.{length, get_or}
use borrow.Author.Tests.{le-ltb, lt-leb, eq-eqb, ne_eqb}
use Rattle.meaning.specs.declared.Outcome.{Outcome}
use Rattle.meaning.specs.Words.{for_each, sum, in_turn}
use Rattle.meaning.specs.Sheet.{first_of, second_of, interfere}
use Rattle.meaning.specs.Answer.{accepted, given, ◌then◌, in_order, above, pair_test}
use Rattle.laws.proofs.Turns.{for_each-stays, some-found, sum_same}
use Rattle.laws.proofs.Accepted.{then-goes}
use Rattle.laws.proofs.Conflicting.{interfere-sym}
use Rattle.arrangement.specs.Arranged.{all_pairs}
use Rattle.laws.proofs.InTurn.{sum-within, in_turn-length, in_turn-at, two-length, two-first, two-second}
use Rattle.arrangement.proofs.RisingOrder.{first-less, second-less}

-- a number below a sum stands in one of its parts
record Part (c : ℕ → ℕ) (m k : ℕ) : Type 0 where
  part : ℕ
  off : ℕ
  part_most : part < m
  off_most : off < c part
  stands : sum part c + off ≡ k

in-part : (c : ℕ → ℕ) (m k : ℕ) → k < sum m c → Part c m k
unfolding sum
in-part c zero k h = absurd (not-suc-le-zero h)
in-part c (suc m) k h = go (dec_lt k (sum m c)) (in-part c m k)
  where
    go : Dec (k < sum m c) → (k < sum m c → Part c m k) → Part c (suc m) k
    go (yes l) before =
        let found = before l in
        record { part = found.part; off = found.off; part_most = omega (arith, found.part_most); off_most = found.off_most; stands = found.stands }
    go (no l) before = record { part = m; off = k - sum m c; part_most = omega arith; off_most = omega arith; stands = omega arith }

-- what stands earlier stands in an earlier part, or earlier in the same
parts-rise : (c : ℕ → ℕ) (m j k : ℕ) → (x : Part c m j) → (y : Part c m k) → j < k → (x.part < y.part) ⊎ ((x.part ≡ y.part) × (x.off < y.off))
parts-rise c m j k x y h = go (dec_lt x.part y.part) (dec_lt y.part x.part)
  where
    go : Dec (x.part < y.part) → Dec (y.part < x.part) → (x.part < y.part) ⊎ ((x.part ≡ y.part) × (x.off < y.off))
    go (yes l) r = inl l
    go (no l) (yes r) = absurd (omega (arith, sum-within c y.part x.part r, x.stands, y.stands, y.off_most))
    go (no l) (no r) =
        let same : x.part ≡ y.part = omega arith in
        inr (same, omega (arith, ap (λ (a : ℕ). sum a c) same, x.stands, y.stands))

-- how many nodes up to n stand above node a + 1
abbrev higher : (n a : ℕ) → ℕ
higher n a = n - suc a

-- a sum from its other end
sum_first : (n : ℕ) (f : ℕ → ℕ) → sum (suc n) f ≡ f 0 + sum n (λ k. f (suc k))
unfolding sum
sum_first zero f = omega arith
sum_first (suc n) f = omega (arith, sum_first n f)

-- twice the pairs of p + 1 nodes
twice-pairs : (p : ℕ) → 2 * sum (suc p) (higher (suc p)) ≡ p * suc p
unfolding sum
twice-pairs zero = refl
twice-pairs (suc p) =
    omega (
      arith,
      sum_first (suc p) (higher (suc (suc p))),
      sum_same (suc p) (λ k. higher (suc (suc p)) (suc k)) (higher (suc p)) (λ k h. omega arith),
      twice-pairs p,
      suc-mul p (suc (suc p)),
      mul-suc p (suc p),
    )

-- the pairs of p + 1 nodes
abbrev pub pairs_of : (p : ℕ) → ℕ
pairs_of p = p * (p + 1) / 2

module _ (p : ℕ) where
  -- the list, and how many pairs each node has with those above it
  abbrev list : List ℕ
  list = all_pairs (p + 1)

  abbrev above_of : ℕ → ℕ
  above_of = higher (p + 1)

  twice : 2 * sum (p + 1) above_of ≡ p * (p + 1)
  twice = let one : suc p ≡ p + 1 = omega arith in subst (λ (n : ℕ). 2 * sum n (higher n) ≡ p * n) one (twice-pairs p)

  pairs-sum : sum (p + 1) above_of ≡ pairs_of p
  pairs-sum = omega (arith, twice)

  row-length : (a : ℕ) → length (in_turn (p + 1 - suc a) (λ b. suc a ∷ (a + b + 2) ∷ [])) ≡ 2 * above_of a
  row-length a = two-length (λ _. suc a) (λ b. a + b + 2) (p + 1 - suc a)

  -- the list is as long as probes times nodes, which is twice the pairs
  pub all-length : length (all_pairs (p + 1)) ≡ p * (p + 1)
  all-length = in_turn-length (λ a. in_turn (p + 1 - suc a) (λ b. suc a ∷ (a + b + 2) ∷ [])) above_of (p + 1) (λ a _. row-length a) ∙ twice

  pub all-twice : length (all_pairs (p + 1)) ≡ 2 * pairs_of p
  all-twice = omega (arith, all-length, twice)

  all-byte : (a b i : ℕ) → a < p + 1 → b < above_of a → i < 2
      → get_or list (2 * (sum a above_of + b) + i) 0 ≡ get_or (in_turn (p + 1 - suc a) (λ b. suc a ∷ (a + b + 2) ∷ [])) (2 * b + i) 0
  all-byte a b i ha hb hi =
      let at : 2 * (sum a above_of + b) + i ≡ 2 * sum a above_of + (2 * b + i) = omega arith in
      ap (λ (j : ℕ). get_or list j 0) at
      ∙ in_turn-at (λ a. in_turn (p + 1 - suc a) (λ b. suc a ∷ (a + b + 2) ∷ [])) above_of (p + 1) (λ a _. row-length a) a (2 * b + i) ha (omega arith)

  -- record k is the pair of its part and its place there
  module _ (k : ℕ) (x : Part above_of (p + 1) k) where
    first-is : first_of list k ≡ suc x.part
    first-is =
        let at : 2 * k ≡ 2 * (sum x.part above_of + x.off) + 0 = omega (arith, x.stands) in
        let same : 2 * x.off + 0 ≡ 2 * x.off = omega arith in
        ap (λ (j : ℕ). get_or list j 0) at
        ∙ all-byte x.part x.off 0 x.part_most x.off_most (omega arith)
        ∙ ap (λ (j : ℕ). get_or (in_turn (p + 1 - suc x.part) (λ b. suc x.part ∷ (x.part + b + 2) ∷ [])) j 0) same
        ∙ two-first (λ _. suc x.part) (λ b. x.part + b + 2) (p + 1 - suc x.part) x.off x.off_most

    second_is : second_of list k ≡ x.part + x.off + 2
    second_is =
        let at : 2 * k + 1 ≡ 2 * (sum x.part above_of + x.off) + 1 = omega (arith, x.stands) in
        ap (λ (j : ℕ). get_or list j 0) at
        ∙ all-byte x.part x.off 1 x.part_most x.off_most (omega arith)
        ∙ two-second (λ _. suc x.part) (λ b. x.part + b + 2) (p + 1 - suc x.part) x.off x.off_most

  part_of : (k : ℕ) → k < pairs_of p → Part above_of (p + 1) k
  part_of k h = in-part above_of (p + 1) k (omega (arith, pairs-sum))

  -- 7 is not given
  pair-good : (k : ℕ) → k < pairs_of p → (eqb (first_of list k) 0 || leb (second_of list k) (first_of list k) || ltb (p + 1) (second_of list k)) ≡ false
  pair-good k h =
      let x = part_of k h in
      let first = first-is k x in
      let second = second_is k x in
      ap₂ ◌||◌
      (ap₂ ◌||◌ (ne_eqb (first_of list k) 0 (λ e. omega (arith, first))) (lt-leb (second_of list k) (first_of list k) (omega (arith, first, second))))
      (le-ltb (p + 1) (second_of list k) (omega (arith, second, x.part_most, x.off_most)))

  -- 8 is not given
  pair-above : (k : ℕ) → 1 ≤ k → k < pairs_of p → above list k ≡ true
  pair-above k low h =
      let x = part_of (k - 1) (omega arith) in
      let y = part_of k h in
      ⊎_elim
      (λ (l : x.part < y.part).
      first-less (first_of list (k - 1)) (first_of list k) (second_of list (k - 1)) (second_of list k) (omega (arith, first-is (k - 1) x, first-is k y)))
      (λ (l : (x.part ≡ y.part) × (x.off < y.off)).
      second-less (first_of list (k - 1)) (first_of list k) (second_of list (k - 1)) (second_of list k) (omega (arith, l.0, first-is (k - 1) x, first-is k y))
      (omega (arith, l.0, l.1, second_is (k - 1) x, second_is k y)))
      (parts-rise above_of (p + 1) (k - 1) k x y (omega arith))

  pair-risen : (k : ℕ) → k < pairs_of p → (ltb 0 k && not (above list k)) ≡ false
  pair-risen zero h = refl
  pair-risen (suc k) h = ap (λ (b : Bool). ltb 0 (suc k) && not b) (pair-above (suc k) (omega arith) h) ∙ and-false (ltb 0 (suc k))

  pair-passes : (k : ℕ) → k < pairs_of p → pair_test list p k ≡ accepted
  unfolding pair_test
  pair-passes k h =
      ap₂ ◌then◌ (ap (given 7 (k + 1)) (pair-good k h)) (ap (given 8 (k + 1)) (pair-risen k h)) ∙ then-goes accepted accepted refl

  -- "The yard sheet in bytes": all pairs are in rising order, each with the lower node first
  pub all_pass : in_order (pairs_of p) (pair_test (all_pairs (p + 1)) p) ≡ accepted
  unfolding in_order for_each
  all_pass =
      for_each-stays 0 (pairs_of p) (λ k found. found then pair_test list p k) accepted accepted (omega arith) refl
      (λ k _ h. ap (λ (o : Outcome). accepted then o) (pair-passes k h) ∙ then-goes accepted accepted refl)

  -- of two nodes the lower stands first
  lower-interferes : (x y : ℕ) → 1 ≤ x → x < y → y ≤ p + 1 → interfere list (pairs_of p) x y ≡ true
  unfolding interfere
  lower-interferes x y low l high =
      some-found (pairs_of p) _ k within
      (ap (λ (b : Bool). b || (eqb (first_of list k) y && eqb (second_of list k) x))
      (ap₂ ◌&&◌ (eq-eqb (first_of list k) x (omega (arith, first-is k at))) (eq-eqb (second_of list k) y (omega (arith, second_is k at)))))
    where
      k : ℕ
      k = sum (x - 1) above_of + (y - x - 1)

      at : Part above_of (p + 1) k
      at = record { part = x - 1; off = y - x - 1; part_most = omega arith; off_most = omega arith; stands = refl }

      within : k < pairs_of p
      within = omega (arith, pairs-sum, sum-within above_of (x - 1) (p + 1) at.part_most, at.off_most)

  -- "Worst and best": any two nodes interfere
  pub all-interfere : (x y : ℕ) → 1 ≤ x → x ≤ p + 1 → 1 ≤ y → y ≤ p + 1 → x ≢ y → interfere (all_pairs (p + 1)) (pairs_of p) x y ≡ true
  all-interfere x y xl xh yl yh other = go (dec_lt x y)
    where
      go : Dec (x < y) → interfere list (pairs_of p) x y ≡ true
      go (yes l) = lower-interferes x y xl l yh
      go (no l) = interfere-sym list (pairs_of p) x y ∙ lower-interferes y x yl (omega arith) xh
