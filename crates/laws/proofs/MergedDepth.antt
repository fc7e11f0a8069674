-- A good merged plan has at least as many slots as its yard is deep: each probe sends before its parent, so from the slot in which it sends there are as many
-- slots left as its level. By recursion on the level.
use mathlib.Core.Path.{◌≡◌, refl}
use mathlib.Core.Bool.{true}
use mathlib.Core.List.{List}
use mathlib.Core.Logic.{⊎_elim}
use Prim.Native.Nat.{ℕ, zero, suc, ◌+◌, ◌≤◌}
use native.Mathlib.Omega.{arith}
use lib.ListN.{length}
use Rattle.meaning.specs.Yard.{is_probe}
use Rattle.meaning.specs.Sheet.{probe_count, parent_of, level_of}
use Rattle.meaning.specs.Colour.{depth}
use Rattle.meaning.specs.Merged.{MergedGood}
use Rattle.laws.proofs.Walk.{probe-yes}
use Rattle.laws.proofs.Slots.{true-or-false}
use Rattle.laws.proofs.Grounds.{other-level, level-up, level-least}
use Rattle.laws.proofs.Levels.{most-within}

module _ (s plan : List ℕ) (good : MergedGood s plan) where
  -- as many slots are left as the level
  left-slots : (n v : ℕ) → is_probe (probe_count s) v ≡ true → level_of s v ≡ n → good.when v + n ≤ length good.slots
  left-slots zero v probe e = absurd (omega (arith, level-least s good.sheet v probe))
  left-slots (suc n) v probe e =
      let up = level-up s good.sheet v probe in
      ⊎_elim
      (λ above. omega (arith, good.after_children v probe above, left-slots n (parent_of s v) above (omega arith)))
      (λ top. omega (arith, other-level s good.sheet (parent_of s v) top, (good.sends v probe).0))
      (true-or-false (is_probe (probe_count s) (parent_of s v)))

  -- "Merged readings", on the telephone: no plan has fewer slots than levels
  pub merged-depth : depth s ≤ length good.slots
  unfolding depth
  merged-depth =
      most-within (probe_count s) (λ k. level_of s (k + 2)) (length good.slots)
      (λ k h. omega (arith, left-slots (level_of s (k + 2)) (k + 2) (probe-yes (probe_count s) (k + 2) (omega arith) (omega arith)) refl))
