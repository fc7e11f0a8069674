-- The deeper a level, the fewer stand there or below it: on the walk from a probe to the gateway stands a probe of each level above its own, so that
-- from level to level one probe at least falls away; by recursion on the level.
use mathlib.Core.Path.{◌≡◌, refl, ap, ◌∙◌}
use mathlib.Core.Bool.{Bool, true, false, cond}
use mathlib.Core.List.{List}
use mathlib.Core.Logic.{⊎_elim}
use Prim.Native.Nat.{ℕ, zero, suc, ◌+◌, ◌-◌, ◌≤◌, ◌<◌}
use native.Mathlib.Omega.{arith}
use lib.Dec.{leb}
use borrow.Author.Tests.{leb-true, le-leb, lt-leb}
use Rattle.meaning.specs.Words.{count}
use Rattle.meaning.specs.Yard.{is_probe, climb}
use Rattle.meaning.specs.Sheet.{probe_count, parent_of, level_of}
use Rattle.meaning.specs.Answer.{is_accepted, sheet_test}
use Rattle.laws.proofs.Turns.{sum-constant}
use Rattle.laws.proofs.Walk.{not-both, probe-at, more-or-same}
use Rattle.laws.proofs.Slots.{true-or-false}
use Rattle.laws.proofs.Grounds.{level-up}
use Rattle.arrangement.proofs.Ranked.{count-least}

module _ (s : List ℕ) (ok : is_accepted (sheet_test s) ≡ true) where
  -- what has a level is a probe
  level-probe : (v : ℕ) → 1 ≤ level_of s v → is_probe (probe_count s) v ≡ true
  unfolding level_of
  level-probe v h =
      ⊎_elim (λ (e : is_probe (probe_count s) v ≡ true). e)
      (λ (e : is_probe (probe_count s) v ≡ false).
      absurd (omega (arith, ap (λ (b : Bool). cond b (climb (parent_of s) (probe_count s) v) 0) e)))
      (true-or-false (is_probe (probe_count s) v))

  -- the probe of a level on the walk from v, so many levels above it
  above : (steps level v : ℕ) → 1 ≤ level → level_of s v ≡ level + steps → (u : ℕ) × (level_of s u ≡ level)
  above zero level v low e = (v, omega arith)
  above (suc steps) level v low e = above steps level (parent_of s v) low (omega (arith, level-up s ok v (level-probe v (omega arith))))

  -- how many stand at a level or below it
  abbrev deeper : ℕ → ℕ
  deeper level = count (probe_count s) (λ k. leb level (level_of s (k + 2)))

  pub deeper-few : (level v : ℕ) → level < level_of s v → deeper (suc level) + level ≤ probe_count s
  deeper-few zero v h =
      omega (
        arith,
        count-least (probe_count s) (λ k. leb 1 (level_of s (k + 2))) (λ _. true) (λ k hk e. refl),
        sum-constant (probe_count s) 1,
      )
  deeper-few (suc level) v h =
      let found = above (level_of s v - suc level) (suc level) v (omega arith) (omega arith) in
      let u = found.0 in
      let at = probe-at (probe_count s) u (level-probe u (omega (arith, found.1))) in
      ⊎_elim (λ less. omega (arith, deeper-few level v (omega arith)))
      (λ same.
      not-both
      (ap (λ (w : ℕ). leb (suc level) (level_of s w)) at.1 ∙ le-leb (suc level) (level_of s u) (omega (arith, found.1)))
      (same (u - 2) at.0
      ∙ ap (λ (w : ℕ). leb (suc (suc level)) (level_of s w)) at.1
      ∙ lt-leb (suc (suc level)) (level_of s u) (omega (arith, found.1))))
      (more-or-same (probe_count s) (λ k. leb (suc (suc level)) (level_of s (k + 2))) (λ k. leb (suc level) (level_of s (k + 2)))
      (λ k hk e. le-leb (suc level) (level_of s (k + 2)) (omega (arith, leb-true (suc (suc level)) (level_of s (k + 2)) e))))
