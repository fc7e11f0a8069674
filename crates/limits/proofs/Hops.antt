-- The hops of an accepted sheet are at most 30,240: every level up to the deepest has a probe, so that of p probes at most p - j stand above level j; a
-- level is the number of levels below it, and so all levels together are at most p + .. + 2 + 1, or 2,016 of 63 probes, with at most 15 packets each.
use mathlib.Core.Path.{◌≡◌, refl, ap}
use mathlib.Core.Bool.{Bool, true, cond}
use mathlib.Core.List.{List}
use Prim.Native.Nat.{ℕ, zero, suc, ◌+◌, ◌*◌, ◌≤◌, ◌<◌}
use native.Mathlib.Nat.{le_refl, mul-add, mul-suc, suc-mul, mul-le-mul}
use native.Mathlib.Decide.{dec_lt}
use native.Mathlib.Omega.{arith}
use lib.Dec.{leb}
use borrow.Author.Tests.{le-leb, lt-leb}
use Rattle.meaning.specs.Words.{sum, sum_probes}
use Rattle.meaning.specs.Sheet.{probe_count, packets_of, level_of, hops}
use Rattle.meaning.specs.Colour.{depth}
use Rattle.meaning.specs.Answer.{is_accepted, sheet_test}
use Rattle.laws.proofs.Turns.{sum_same, sum-least, sum-constant}
use Rattle.laws.proofs.Walk.{probe-yes}
use Rattle.laws.proofs.Accepted.{accepted-yard, pairs-of-few}
use Rattle.laws.proofs.Grounds.{few-probes, level_most}
use Rattle.laws.proofs.Levels.{level-deep}
use Rattle.limits.proofs.Sums.{sum-zero, sum-add, sum-swap, sum-times}
use Rattle.limits.proofs.LevelLine.{from_line, line-parts, line-some, from_first}

-- a level is the number of levels below it
abbrev under : ℕ → ℕ → ℕ
under l j = cond (leb (j + 2) (l + 1)) 1 0

under-yes : (l j : ℕ) → j < l → under l j ≡ 1
under-yes l j h = ap (λ (b : Bool). cond b 1 0) (le-leb (j + 2) (l + 1) (omega arith))

under-no : (l j : ℕ) → l ≤ j → under l j ≡ 0
under-no l j h = ap (λ (b : Bool). cond b 1 0) (lt-leb (j + 2) (l + 1) (omega arith))

all_under : (l n : ℕ) → n ≤ l → sum n (under l) ≡ n
unfolding sum
all_under l zero h = refl
all_under l (suc n) h = omega (arith, all_under l n (omega arith), under-yes l n (omega arith))

counts : (l n : ℕ) → l ≤ n → sum n (under l) ≡ l
unfolding sum
counts l zero h = omega arith
counts l (suc n) h = go (dec_lt n l) (counts l n)
  where
    go : Dec (n < l) → (l ≤ n → sum n (under l) ≡ l) → sum n (under l) + under l n ≡ l
    go (yes k) before = omega (arith, all_under l n (omega arith), under-yes l n k)
    go (no k) before = omega (arith, before (omega arith), under-no l n (omega arith))

steps : (n : ℕ) → 2 * sum n (λ j. j) + n ≡ n * n
unfolding sum
steps zero = refl
steps (suc n) = omega (arith, steps n, mul-suc (suc n) n, suc-mul n n)

module _ (s : List ℕ) (ok : is_accepted (sheet_test s) ≡ true) where
  -- the probes above level j
  abbrev above : ℕ → ℕ
  above j = from_line s ok (λ _. 1) (j + 2)

  above-deepest : (j : ℕ) → depth s ≤ j → above j ≡ 0
  above-deepest j h =
      sum-zero (probe_count s) (λ k. under (level_of s (k + 2)) j) (λ k hk. under-no (level_of s (k + 2)) j (omega (arith, level-deep s ok k hk)))

  above-few : (j : ℕ) → j ≤ depth s → above j + j ≤ probe_count s
  above-few zero h = omega (arith, from_first s ok (λ _. 1), sum-constant (probe_count s) 1)
  above-few (suc j) h =
      let next : suc j + 2 ≡ j + 2 + 1 = omega arith in
      omega (
        arith,
        above-few j (omega arith),
        line-parts s ok (λ _. 1) (j + 2),
        line-some s ok (λ _. 1) (λ _ _. le_refl 1) (j + 2) (probe-yes (depth s) (j + 2) (omega arith) (omega arith)),
        ap (from_line s ok (λ _. 1)) next,
      )

  above_most : (j : ℕ) → j < probe_count s → above j + j ≤ probe_count s
  above_most j h = go (dec_lt j (depth s))
    where
      go : Dec (j < depth s) → above j + j ≤ probe_count s
      go (yes l) = above-few j (omega arith)
      go (no l) = omega (arith, above-deepest j (omega arith))

  -- all levels together
  pub levels-most : 2 * sum_probes (probe_count s) (level_of s) ≤ probe_count s * (probe_count s + 1)
  levels-most =
      let p : ℕ = probe_count s in
      omega (
        arith,
        sum_same p (λ k. sum p (under (level_of s (k + 2)))) (λ k. level_of s (k + 2)) (λ k _. counts (level_of s (k + 2)) p (level_most s ok (k + 2))),
        sum-swap p p (λ k. under (level_of s (k + 2))),
        sum-add p above (λ j. j),
        sum-least p (λ j. above j + j) (λ _. p) above_most,
        sum-constant p p,
        steps p,
        mul-add p p 1,
      )

  pub hops-limit : hops s ≤ 30240
  unfolding hops
  hops-limit =
      omega (
        arith,
        sum-least (probe_count s) (λ k. packets_of s (k + 2) * level_of s (k + 2)) (λ k. 15 * level_of s (k + 2))
            (λ k h.
            mul-le-mul ((accepted-yard s ok).probe (k + 2) (probe-yes (probe_count s) (k + 2) (omega arith) (omega arith))).packets_most
            (le_refl (level_of s (k + 2)))),
        sum-times (probe_count s) 15 (λ k. level_of s (k + 2)),
        levels-most,
        pairs-of-few (probe_count s) (few-probes s ok),
      )
