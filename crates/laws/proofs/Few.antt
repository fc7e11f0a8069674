-- The probes of a yard are all counted: they are at most 63.
use mathlib.Core.Path.{◌≡◌}
use Prim.Native.Nat.{ℕ, ◌≤◌}
use native.Mathlib.Omega.{arith}
use Rattle.laws.specs.Few.{at_most63}

pub as_many : (p : ℕ) → p ≤ 63 → at_most63 p ≡ p
as_many p few = omega arith
