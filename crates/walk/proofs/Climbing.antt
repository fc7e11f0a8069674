-- What a walk answers at the gateway, with no hop left, and after a hop: each law goes by what the definitions say of one hop.
use mathlib.Core.Path.{◌≡◌, refl, sym, ap, ap₂, ◌∙◌, subst}
use mathlib.Core.Bool.{Bool, true, false, cond}
use Prim.Native.Nat.{ℕ, suc, ◌+◌, ◌-◌, ◌*◌, ◌≤◌, ◌<◌, max}
use native.Mathlib.Nat.{mul-le-mul, max-eq_left, max-eq_right, le_of_lt}
use native.Mathlib.Numerals.{add-one}
use native.Mathlib.Omega.{arith}
use borrow.Author.Tests.{ne_eqb}
use Rattle.meaning.specs.declared.Level.{Level}
use Rattle.std.specs.Prelude.{Option, Some, None}
use Rattle.meaning.specs.Yard.{reaches, climb, climbed}
use Rattle.meaning.specs.Words.{most}
use Rattle.laws.proofs.Turns.{most-one}
use Rattle.laws.proofs.Walk.{reaches_here, climb-here, reaches-on, climb-on, climb-most, climb-never}

-- the answer of a walk from the answer of the walk from its parent
abbrev pub further : Option Level → Option Level
further (Some level) = Some (record { 0 = level.0 + 1 })
further None = None

-- the level of an answer, all of `left` where it has not arrived
abbrev pub level_in : ℕ → Option Level → ℕ
level_in left (Some level) = level.0
level_in left None = left

module _ (parent : ℕ → ℕ) where
  pub climbed-here : (left v : ℕ) → v ≡ 1 → Some (record { 0 = 0 }) ≡ climbed parent left v
  unfolding climbed
  climbed-here left v e = rw (reaches_here parent 1 left v e, climb-here parent left v e)

  pub climbed-none : (left v : ℕ) → (v ≡ 1 → ⊥) → left ≡ 0 → None ≡ climbed parent left v
  unfolding climbed reaches
  climbed-none left v ne e = rw (e, ne_eqb v 1 ne)

  hop : (before v : ℕ) → (v ≡ 1 → ⊥) → further (climbed parent before (parent v)) ≡ climbed parent (suc before) v
  unfolding climbed
  hop before v ne = rw (reaches-on parent 1 before v ne, climb-on parent before v ne) (go (reaches parent 1 before (parent v)))
    where
      go : (b : Bool) → further (cond b (Some (record { 0 = climb parent before (parent v) })) None)
          ≡ cond b (Some (record { 0 = suc (climb parent before (parent v)) })) None
      go true = rw (add-one (climb parent before (parent v)))
      go false = refl

  pub climbed-on : (left v u : ℕ) (walk found : Option Level) → (v ≡ 1 → ⊥) → (left ≡ 0 → ⊥) → u ≡ parent v → walk ≡ climbed parent (left - 1) u
      → walk ≡ found → further found ≡ climbed parent left v
  climbed-on left v u walk found ne some at-parent e is =
      let one_more : suc (left - 1) ≡ left = omega arith in
      ap further (sym is ∙ e ∙ ap (climbed parent (left - 1)) at-parent)
      ∙ hop (left - 1) v ne
      ∙ ap (λ (n : ℕ). climbed parent n v) one_more

  -- the level in an answer is `climb`, and so at most `left`
  pub climbed-level : (left v : ℕ) → level_in left (climbed parent left v) ≡ climb parent left v
  unfolding climbed
  climbed-level left v = go (reaches parent 1 left v) refl
    where
      go : (b : Bool) → reaches parent 1 left v ≡ b → level_in left (cond b (Some (record { 0 = climb parent left v })) None) ≡ climb parent left v
      go true e = refl
      go false e = sym (climb-never parent left v e)

  pub climbed-most : (left v : ℕ) (walk : Option Level) (level : Level) → walk ≡ climbed parent left v → walk ≡ Some level → level.0 ≤ left
  climbed-most left v walk level e is =
      subst (λ (n : ℕ). n ≤ left) (sym (ap (level_in left) (sym is ∙ e) ∙ climbed-level left v)) (climb-most parent left v)

-- what a product of two bytes comes to at most
pub product-most : (a b : ℕ) → a < 256 → b < 256 → a * b ≤ 65025
product-most a b ha hb = mul-le-mul {n₁ = a} {m₁ = b} {n₂ = 255} {m₂ = 255} (omega arith) (omega arith)

-- the larger of the most so far and one more
pub most-larger : (i : ℕ) (f : ℕ → ℕ) (deepest level : ℕ) → deepest ≡ most i f → level ≡ f i → deepest < level → level ≡ most (i + 1) f
most-larger i f deepest level e q h = sym (max-eq_right (le_of_lt h)) ∙ ap₂ max e q ∙ sym (most-one i f)

pub most-stays : (i : ℕ) (f : ℕ → ℕ) (deepest level : ℕ) → deepest ≡ most i f → level ≡ f i → level ≤ deepest → deepest ≡ most (i + 1) f
most-stays i f deepest level e q h = sym (max-eq_left h) ∙ ap₂ max e q ∙ sym (most-one i f)
