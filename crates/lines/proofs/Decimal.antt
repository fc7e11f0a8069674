-- A number in decimal, digit by digit: each law is a clause of `decimal`.
use mathlib.Core.Path.{◌≡◌, refl, ap, ◌∙◌}
use mathlib.Core.List.{[], ◌∷◌, ◌++◌}
use Prim.Native.Nat.{ℕ, zero, suc, ◌+◌, ◌-◌, ◌/◌, ◌%◌, ◌≤◌, ◌<◌}
use native.Mathlib.Decide.{dec_lt}
use native.Mathlib.Omega.{arith}
use borrow.Author.Tests.{lt-ltb, le-ltb}
use lib.ListN.{length, length-append}
use Rattle.meaning.specs.Lister.{decimal}

pub decimal-none : (most n : ℕ) → most ≡ 0 → decimal most n ≡ []
unfolding decimal
decimal-none most n e = rw e

pub decimal-last : (most n : ℕ) → (most ≡ 0 → ⊥) → n < 10 → decimal most n ≡ (48 + n) ∷ []
unfolding decimal
decimal-last zero n ne h = absurd (ne refl)
decimal-last (suc most) n ne h = rw (lt-ltb n 10 h)

pub opened : (most n : ℕ) → 10 ≤ n → decimal (suc most) n ≡ decimal most (n / 10) ++ ((48 + n % 10) ∷ [])
unfolding decimal
opened most n h = rw (le-ltb n 10 h)

pub decimal-more : (most n : ℕ) → (most ≡ 0 → ⊥) → 10 ≤ n → decimal most n ≡ decimal (most - 1) (n / 10) ++ ((48 + n % 10) ∷ [])
decimal-more zero n ne h = absurd (ne refl)
decimal-more (suc most) n ne h =
    let before : most ≡ suc most - 1 = omega arith in
    opened most n h ∙ ap (λ (k : ℕ). decimal k (n / 10) ++ ((48 + n % 10) ∷ [])) before

pub length_more : (most n : ℕ) → (most ≡ 0 → ⊥) → 10 ≤ n → length (decimal most n) ≡ length (decimal (most - 1) (n / 10)) + 1
length_more most n ne h = ap length (decimal-more most n ne h) ∙ length-append (decimal (most - 1) (n / 10)) ((48 + n % 10) ∷ [])

none-long : (n : ℕ) → length (decimal 0 n) ≡ 0
unfolding decimal
none-long n = refl

-- a number has at most as many digits as are said of it
pub digits-most : (most n : ℕ) → length (decimal most n) ≤ most
digits-most zero n = omega (arith, none-long n)
digits-most (suc most) n = go (dec_lt n 10) (digits-most most (n / 10))
  where
    go : Dec (n < 10) → length (decimal most (n / 10)) ≤ most → length (decimal (suc most) n) ≤ suc most
    go (yes h) fewer = omega (arith, ap length (decimal-last (suc most) n (λ e. omega arith) h))
    go (no h) fewer =
        let before : suc most - 1 ≡ most = omega arith in
        omega (arith, length_more (suc most) n (λ e. omega arith) (omega arith) ∙ ap (λ (k : ℕ). length (decimal k (n / 10)) + 1) before)
