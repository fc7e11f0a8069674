-- The choice by cases of the two verdicts: which plan passes, and which of two that pass has fewer slots.
use mathlib.Core.Path.{◌≡◌, refl, ap, subst}
use mathlib.Core.Bool.{Bool, true, false, cond, not, ◌&&◌, ◌||◌}
use mathlib.Core.List.{[]}
use Prim.Native.Nat.{◌≤◌, ◌<◌}
use borrow.Author.Tests.{leb-true, leb-false}
use lib.Dec.{leb}
use Rattle.meaning.specs.declared.Verdict.{Verdict}
use Rattle.meaning.specs.declared.Choice.{Choice}
use Rattle.meaning.specs.declared.Choice.TheVariants.{Neither, First, Second}
use Rattle.meaning.specs.Words.{Bytes}
use Rattle.meaning.specs.Answer.{is_accepted}
use Rattle.meaning.specs.Judge.{judge, choose_by, choice, handed_back}
use Rattle.laws.proofs.Walk.{not-both}
use Rattle.promises.specs.Answers.{Passes}

-- what each choice says of the two verdicts
abbrev Says : Verdict → Verdict → Choice → Type 0
Says a b First = (is_accepted a.outcome ≡ true) × (is_accepted b.outcome ≡ true → a.slots ≤ b.slots)
Says a b Second = (is_accepted b.outcome ≡ true) × (is_accepted a.outcome ≡ true → b.slots < a.slots)
Says a b Neither = (is_accepted a.outcome ≡ true → ⊥) × (is_accepted b.outcome ≡ true → ⊥)

says : (a b : Verdict) → Says a b (choose_by a b)
says a b = go (is_accepted a.outcome) (is_accepted b.outcome) (leb a.slots b.slots) refl refl refl
  where
    go : (x y z : Bool) → is_accepted a.outcome ≡ x → is_accepted b.outcome ≡ y → leb a.slots b.slots ≡ z
        → Says a b (cond (x && (not y || z)) First (cond y Second Neither))
    go true true true ea eb few = (ea, λ _. leb-true a.slots b.slots few)
    go true true false ea eb few = (eb, λ _. leb-false a.slots b.slots few)
    go true false z ea eb few = (ea, λ h. not-both h eb)
    go false true z ea eb few = (eb, λ h. not-both h ea)
    go false false z ea eb few = (λ h. not-both h ea, λ h. not-both h eb)

module _ (s a b : Bytes) where
  chosen : (c : Choice) → choice s a b ≡ c → Says (judge s a) (judge s b) c
  unfolding choice
  chosen c is = subst (Says (judge s a) (judge s b)) is (says (judge s a) (judge s b))

  pub first-chosen : choice s a b ≡ First → (handed_back (choice s a b) a b ≡ a) × Passes s a × (Passes s b → (judge s a).slots ≤ (judge s b).slots)
  first-chosen is = (ap (λ (c : Choice). handed_back c a b) is, (chosen First is).0, (chosen First is).1)

  pub second-chosen : choice s a b ≡ Second → (handed_back (choice s a b) a b ≡ b) × Passes s b × (Passes s a → (judge s b).slots < (judge s a).slots)
  second-chosen is = (ap (λ (c : Choice). handed_back c a b) is, (chosen Second is).0, (chosen Second is).1)

  pub neither-chosen : choice s a b ≡ Neither → (handed_back (choice s a b) a b ≡ []) × (Passes s a → ⊥) × (Passes s b → ⊥)
  neither-chosen is = (ap (λ (c : Choice). handed_back c a b) is, (chosen Neither is).0, (chosen Neither is).1)
