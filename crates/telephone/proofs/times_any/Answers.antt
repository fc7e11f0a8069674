-- `telephone::times_any` meets its contract: what is divided by 0 is 0, and sums of two bytes fit four.
use mathlib.Core.Path.{◌≡◌, ap, ◌∙◌}
use Prim.Native.Nat.{ℕ, ◌+◌, ◌-◌, ◌/◌}
use native.Mathlib.Nat.{div-zero}
use native.Mathlib.Omega.{arith}
use Rattle.telephone.proofs.times_any.Goals as goal

by-none : (ours fewest : ℕ) → fewest ≡ 0 → (ours + (fewest - 1)) / fewest ≡ 0
by-none ours fewest none = ap (λ (n : ℕ). (ours + (fewest - 1)) / n) none ∙ div-zero (ours + (fewest - 1))

pub returns-then-least-eq0 : goal.returns-then-least-eq0
returns-then-least-eq0 c =
    omega (arith, by-none c.args.ours c.args.least c.if-least-eq0.true)
