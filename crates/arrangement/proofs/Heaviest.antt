-- As many probes with the most packets have together no fewer than any others: with m the most packets of a probe outside, each probe's part
-- of the one sum, and m where it stands in the other, is no more than the other way round; summed, the m of the one are no more than those of the other.
use mathlib.Core.Path.{◌≡◌, refl, ap}
use mathlib.Core.Bool.{Bool, true, false, cond}
use Prim.Native.Nat.{ℕ, ◌+◌, ◌*◌, ◌≤◌, ◌<◌}
use native.Mathlib.Nat.{mul-le-mul_left}
use native.Mathlib.Omega.{arith}
use Rattle.meaning.specs.Words.{count, most}
use Rattle.meaning.specs.Yard.{is_probe}
use Rattle.laws.proofs.Turns.{sum-least}
use Rattle.laws.proofs.Walk.{probe-yes}
use Rattle.laws.proofs.Levels.{most-holds, most-within}
use Rattle.limits.proofs.Sums.{sum-add, sum-times, together}

module _ (p : ℕ) (chosen heavy : ℕ → Bool) (packets : ℕ → ℕ)
    (heavier : (u v : ℕ) → is_probe p u ≡ true → is_probe p v ≡ true → heavy u ≡ true → heavy v ≡ false → packets v ≤ packets u) where
  probe : (k : ℕ) → k < p → is_probe p (k + 2) ≡ true
  probe k h = probe-yes p (k + 2) (omega arith) (omega arith)

  -- the most packets of a probe outside
  outside : ℕ
  outside = most p (λ k. cond (heavy (k + 2)) 0 (packets (k + 2)))

  outside-most : (k : ℕ) → k < p → heavy (k + 2) ≡ false → packets (k + 2) ≤ outside
  unfolding outside
  outside-most k h e =
      omega (
        arith,
        most-holds p (λ j. cond (heavy (j + 2)) 0 (packets (j + 2))) k h,
        ap (λ (b : Bool). cond b 0 (packets (k + 2))) e,
      )

  outside-least : (k : ℕ) → k < p → heavy (k + 2) ≡ true → outside ≤ packets (k + 2)
  unfolding outside
  outside-least k h e = most-within p (λ j. cond (heavy (j + 2)) 0 (packets (j + 2))) (packets (k + 2)) (λ j hj. go j hj (heavy (j + 2)) refl)
    where
      go : (j : ℕ) → j < p → (b : Bool) → heavy (j + 2) ≡ b → cond b 0 (packets (j + 2)) ≤ packets (k + 2)
      go j hj true q = omega arith
      go j hj false q = heavier (k + 2) (j + 2) (probe k h) (probe j hj) e q

  -- each probe's part
  part : (k : ℕ) → k < p
      → cond (chosen (k + 2)) (packets (k + 2)) 0 + outside * cond (heavy (k + 2)) 1 0
      ≤ cond (heavy (k + 2)) (packets (k + 2)) 0 + outside * cond (chosen (k + 2)) 1 0
  part k h = go (chosen (k + 2)) (heavy (k + 2)) refl
    where
      go : (a b : Bool) → heavy (k + 2) ≡ b
          → cond a (packets (k + 2)) 0 + outside * cond b 1 0 ≤ cond b (packets (k + 2)) 0 + outside * cond a 1 0
      go true true e = omega arith
      go true false e = omega (arith, outside-most k h e)
      go false true e = omega (arith, outside-least k h e)
      go false false e = omega arith

  pub heaviest : count p (λ k. chosen (k + 2)) ≤ count p (λ k. heavy (k + 2)) → together p chosen packets ≤ together p heavy packets
  heaviest fewer =
      omega (
        arith,
        sum-least p (λ k. cond (chosen (k + 2)) (packets (k + 2)) 0 + outside * cond (heavy (k + 2)) 1 0)
            (λ k. cond (heavy (k + 2)) (packets (k + 2)) 0 + outside * cond (chosen (k + 2)) 1 0) part,
        sum-add p (λ k. cond (chosen (k + 2)) (packets (k + 2)) 0) (λ k. outside * cond (heavy (k + 2)) 1 0),
        sum-add p (λ k. cond (heavy (k + 2)) (packets (k + 2)) 0) (λ k. outside * cond (chosen (k + 2)) 1 0),
        sum-times p outside (λ k. cond (heavy (k + 2)) 1 0),
        sum-times p outside (λ k. cond (chosen (k + 2)) 1 0),
        mul-le-mul_left outside fewer,
      )
