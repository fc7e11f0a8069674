-- Who waits for a child, child by child: one more child that has not sent makes its parent wait, and nobody else.
use mathlib.Core.Path.{◌≡◌, refl, sym, ap, ◌∙◌}
use mathlib.Core.Bool.{Bool, true, false, cond, ◌&&◌, ◌||◌}
use mathlib.Core.List.{List}
use Prim.Native.Nat.{ℕ, ◌+◌, ◌≤◌, ◌<◌}
use native.Mathlib.Omega.{arith}
use borrow.Author.Tests.{eq-eqb, ne_eqb}
use mir.Val.{bool_byte}
use lib.Dec.{eqb}
use lib.ListN.{get_or, set}
use Rattle.meaning.specs.Words.{tab, places}
use Rattle.meaning.specs.Rounds.{holds, waits}
use Rattle.laws.proofs.Turns.{some_one, get_or-tab, tab-same, set-tab}

-- a test as a number
pub one-if : (test : Bool) (n : ℕ) → n ≡ bool_byte test → n ≡ cond test 1 0
one-if true n e = e
one-if false n e = e

or-false : (b : Bool) → (b || false) ≡ b
or-false true = refl
or-false false = refl

module _ (parent : ℕ → ℕ) (held : List ℕ) (k : ℕ) where
  -- v waits for one of the first k + 1 probes: for one of the first k, or for this one
  next-waits : (v : ℕ) → waits (k + 1) parent held v ≡ (waits k parent held v || (eqb (parent (k + 2)) v && holds held (k + 2)))
  next-waits v = some_one k (λ j. eqb (parent (j + 2)) v && holds held (j + 2))

  other-waits : (v : ℕ) → (parent (k + 2) ≡ v → ⊥) → waits (k + 1) parent held v ≡ waits k parent held v
  other-waits v other =
      next-waits v ∙ ap (λ (b : Bool). waits k parent held v || (b && holds held (k + 2))) (ne_eqb (parent (k + 2)) v other) ∙ or-false (waits k parent held v)

  pub parent-waits : (flags : List Bool) → flags ≡ tab places (waits k parent held) → (up : ℕ) → up ≡ parent (k + 2) → up < places
      → set flags up (get_or flags up false || holds held (k + 2)) ≡ tab places (waits (k + 1) parent held)
  parent-waits flags is up its node =
      ap (λ (l : List Bool). set l up (get_or l up false || holds held (k + 2))) is
      ∙ set-tab places (waits k parent held) (waits (k + 1) parent held) up _ false node
      (next-waits up
      ∙ ap (λ (b : Bool). waits k parent held up || (b && holds held (k + 2))) (eq-eqb (parent (k + 2)) up (sym its))
      ∙ ap (λ (b : Bool). b || holds held (k + 2)) (sym (get_or-tab places (waits k parent held) up false node)))
      (λ j other. other-waits j (λ e. other (sym e ∙ sym its)))

  pub nobody-waits : (flags : List Bool) → flags ≡ tab places (waits k parent held) → places ≤ parent (k + 2) → flags ≡ tab places (waits (k + 1) parent held)
  nobody-waits flags is past =
      is ∙ tab-same places (waits k parent held) (waits (k + 1) parent held) (λ j h. sym (other-waits j (λ e. omega arith)))
