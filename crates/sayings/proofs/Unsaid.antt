-- Numbers that have no words: 0, and those above 22.
use mathlib.Core.Path.{◌≡◌, refl, sym}
use Prim.Native.Nat.{ℕ, zero, suc, ◌<◌}
use native.Mathlib.Omega.{arith}
use lib.ListN.{get_or-eq_default}
use Rattle.sayings.specs.Saying.{unknown, sayings, saying}

pub says-unknown : (number : ℕ) → (0 < number → 22 < number) → unknown ≡ saying number
unfolding sayings saying
says-unknown zero h = refl
says-unknown (suc n) h = sym (get_or-eq_default sayings unknown (h (omega arith)))
