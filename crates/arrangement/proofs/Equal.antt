-- Where all probes have as many packets, the places are the numbers in turn, so that the worst is (p + 1) / 2 times the best: by the sum of 1, 2, .. p.
use mathlib.Core.Path.{◌≡◌, refl, ap, ap₂, ◌∙◌, sym}
use mathlib.Core.Bool.{Bool, true, false, cond, ◌&&◌, ◌||◌}
use mathlib.Core.List.{List}
use Prim.Native.Nat.{ℕ, zero, suc, ◌+◌, ◌*◌, ◌<◌, min}
use native.Mathlib.Nat.{mul-suc, suc-mul, mul_comm}
use native.Mathlib.Omega.{arith}
use lib.Dec.{ltb}
use borrow.Author.Tests.{ltb-true, ltb-false, le-ltb, eq-eqb}
use Rattle.meaning.specs.Words.{sum, count}
use Rattle.meaning.specs.Yard.{is_probe}
use Rattle.meaning.specs.Sheet.{probe_count, packets_of, all_packets}
use Rattle.laws.proofs.Turns.{sum_same, sum-constant}
use Rattle.laws.proofs.Walk.{probe-yes}
use Rattle.arrangement.specs.Arranged.{comes_before, place_of, worst_slots}

-- of n numbers in turn those below m
count-below : (n m : ℕ) → count n (λ k. ltb (k + 2) (m + 2)) ≡ min n m
unfolding sum
count-below zero m = omega arith
count-below (suc n) m = go (ltb (n + 2) (m + 2)) refl (count-below n m)
  where
    go : (b : Bool) → ltb (n + 2) (m + 2) ≡ b → count n (λ k. ltb (k + 2) (m + 2)) ≡ min n m
        → count n (λ k. ltb (k + 2) (m + 2)) + cond (ltb (n + 2) (m + 2)) 1 0 ≡ min (suc n) m
    go true e before = ap (λ (b : Bool). count n (λ k. ltb (k + 2) (m + 2)) + cond b 1 0) e ∙ omega (arith, before, ltb-true (n + 2) (m + 2) e)
    go false e before = ap (λ (b : Bool). count n (λ k. ltb (k + 2) (m + 2)) + cond b 1 0) e ∙ omega (arith, before, ltb-false (n + 2) (m + 2) e)

-- once, twice, three times and so on
staircase : (each p : ℕ) → 2 * sum p (λ k. each * suc k) ≡ suc p * (p * each)
unfolding sum
staircase each zero = omega arith
staircase each (suc p) =
    omega (
      arith,
      staircase each p,
      mul-suc each p,
      mul_comm each p,
      suc-mul p each,
      suc-mul (suc p) (p * each + each),
      suc-mul p (p * each + each),
      suc-mul p (p * each),
    )

module _ (s : List ℕ) (each : ℕ) (same : (v : ℕ) → is_probe (probe_count s) v ≡ true → packets_of s v ≡ each) where
  alike : (k : ℕ) → k < probe_count s → packets_of s (k + 2) ≡ each
  alike k h = same (k + 2) (probe-yes (probe_count s) (k + 2) (omega arith) (omega arith))

  -- the order is that of the numbers
  by_number : (j k : ℕ) → j < probe_count s → k < probe_count s → comes_before (packets_of s) (j + 2) (k + 2) ≡ ltb (j + 2) (k + 2)
  by_number j k hj hk =
      ap₂ (λ (a b : Bool). a || (b && ltb (j + 2) (k + 2)))
      (le-ltb (packets_of s (j + 2)) (packets_of s (k + 2)) (omega (arith, alike j hj, alike k hk)))
      (eq-eqb (packets_of s (j + 2)) (packets_of s (k + 2)) (alike j hj ∙ sym (alike k hk)))

  in-turn : (k : ℕ) → k < probe_count s → place_of (probe_count s) (packets_of s) (k + 2) ≡ suc k
  unfolding place_of
  in-turn k h =
      let others =
      sum_same (probe_count s) (λ j. cond (comes_before (packets_of s) (j + 2) (k + 2)) 1 0) (λ j. cond (ltb (j + 2) (k + 2)) 1 0)
      (λ j hj. ap (λ (b : Bool). cond b 1 0) (by_number j k hj h)) in
      omega (arith, others, count-below (probe_count s) k)

  pub equal-worst : 2 * worst_slots s ≡ (probe_count s + 1) * all_packets s
  unfolding worst_slots all_packets
  equal-worst =
      ap (λ (n : ℕ). 2 * n)
      (sum_same (probe_count s) (λ k. packets_of s (k + 2) * place_of (probe_count s) (packets_of s) (k + 2)) (λ k. each * suc k)
      (λ k h. ap₂ ◌*◌ (alike k h) (in-turn k h)))
      ∙ staircase each (probe_count s)
      ∙ ap₂ ◌*◌ {x = suc (probe_count s)} (omega arith)
      (sym (sum_same (probe_count s) (λ k. packets_of s (k + 2)) (λ _. each) alike ∙ sum-constant (probe_count s) each))
