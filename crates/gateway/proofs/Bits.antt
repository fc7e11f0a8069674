-- Laws of a word by its bits: the bits before k are a number below 2 ^ k. By recursion on k.
use mathlib.Core.Path.{◌≡◌, sym, ap₂, ◌∙◌}
use mathlib.Core.Bool.{Bool, true, false, cond}
use Prim.Native.Nat.{ℕ, zero, suc, ◌+◌, ◌^◌, ◌<◌}
use native.Mathlib.Nat.{lt_of_lt_of_le, pow-suc}
use native.Mathlib.Omega.{arith}
use lib.Pow.{pow_pos, pow_mono}
use Rattle.meaning.specs.Words.{sum}
use Rattle.laws.proofs.Turns.{sum_one}

-- the word with the flags before k
abbrev pub bits : (k : ℕ) → (flag : ℕ → Bool) → ℕ
bits k flag = sum k (λ k. cond (flag k) (2 ^ k) 0)

bits_below : (k : ℕ) (flag : ℕ → Bool) → bits k flag < 2 ^ k
unfolding sum
bits_below zero flag = pow_pos 0
bits_below (suc k) flag = here (flag k) (bits_below k flag)
  where
    here : (b : Bool) → bits k flag < 2 ^ k → bits k flag + cond b (2 ^ k) 0 < 2 ^ suc k
    here true below = omega (arith, pow-suc 2 k)
    here false below = omega (arith, pow-suc 2 k)

-- bit k behind those before it
module _ (k : ℕ) (flag : ℕ → Bool) (w b : ℕ) (before : w ≡ bits k flag) (bit : b ≡ cond (flag k) (2 ^ k) 0) where
  pub bits-next : w + b ≡ bits (k + 1) flag
  bits-next = ap₂ ◌+◌ before bit ∙ sym (sum_one k _)

  pub next_fits : k < 64 → w + b < 2 ^ 64
  next_fits h =
      let below : bits (k + 1) flag < 2 ^ 64 = lt_of_lt_of_le (bits_below (k + 1) flag) (pow_mono {i = k + 1} {j = 64} (omega arith)) in
      rw bits-next below
