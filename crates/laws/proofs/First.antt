-- The first number that passes a test: `least` finds it, by recursion on how many are looked at, and there is only one.
use mathlib.Core.Path.{◌≡◌, refl, ap, ap₂, ◌∙◌}
use mathlib.Core.Bool.{Bool, true, false, cond, not, ◌||◌}
use mathlib.Core.Logic.{⊎_elim}
use Prim.Native.Nat.{ℕ, zero, suc, ◌≤◌, ◌<◌}
use native.Mathlib.Nat.{not-suc-le-zero}
use native.Mathlib.Decide.{dec_lt}
use native.Mathlib.Omega.{arith}
use Rattle.meaning.specs.Words.{for_each, some, least}
use Rattle.laws.proofs.Turns.{below-or-last, some-found, some-none}
use Rattle.laws.proofs.Walk.{not-both}

-- k is the first below n that passes, or n where none does
pub record First (test : ℕ → Bool) (n k : ℕ) : Type 0 where
  pub within : k ≤ n
  pub none : some k test ≡ false
  pub passes : k < n → test k ≡ true

pub least_first : (n : ℕ) (test : ℕ → Bool) → First test n (least n test)
unfolding some least for_each
least_first zero test = record { within = omega arith; none = refl; passes = λ h. absurd (not-suc-le-zero h) }
least_first (suc n) test = go (test (least n test)) refl (least_first n test)
  where
    go : (b : Bool) → test (least n test) ≡ b → First test n (least n test) → First test (suc n) (cond (not b) (suc (least n test)) (least n test))
    go true e is = record { within = omega (arith, is.within); none = is.none; passes = λ _. e }
    go false e is =
        let last : least n test ≡ n =
        ⊎_elim (λ (l : least n test < n). not-both (is.passes l) e) (λ l. l) (below-or-last (least n test) n (omega (arith, is.within)))
        in
        record { within = omega (arith, last); none = ap₂ ◌||◌ is.none e; passes = λ h. absurd (omega (arith, last)) }

-- there is only one such
pub first-only : (test : ℕ → Bool) (n j k : ℕ) → First test n j → First test n k → j ≡ k
first-only test n j k a b = go (dec_lt j k) (dec_lt k j)
  where
    go : Dec (j < k) → Dec (k < j) → j ≡ k
    go (yes l) _ = not-both (a.passes (omega (arith, b.within))) (some-none k test b.none j l)
    go (no l) (yes m) = not-both (b.passes (omega (arith, a.within))) (some-none j test a.none k m)
    go (no l) (no m) = omega arith

-- it is below n exactly where some number passes
pub first_some : (test : ℕ → Bool) (n k : ℕ) → First test n k → k < n → some n test ≡ true
first_some test n k is h = some-found n test k h (is.passes h)

pub first-none : (test : ℕ → Bool) (n k : ℕ) → First test n k → n ≤ k → some n test ≡ false
first-none test n k is h = let all : n ≡ k = omega (arith, is.within) in ap (λ (m : ℕ). some m test) all ∙ is.none

pub some_first : (test : ℕ → Bool) (n k : ℕ) → First test n k → some n test ≡ true → k < n
some_first test n k is e = go (dec_lt k n)
  where
    go : Dec (k < n) → k < n
    go (yes l) = l
    go (no l) = not-both e (first-none test n k is (omega arith))

-- nothing that passes comes before the first
pub first-least : (test : ℕ → Bool) (n k i : ℕ) → First test n k → test i ≡ true → k ≤ i
first-least test n k i is e = go (dec_lt i k)
  where
    go : Dec (i < k) → k ≤ i
    go (yes l) = not-both e (some-none k test is.none i l)
    go (no l) = omega arith
