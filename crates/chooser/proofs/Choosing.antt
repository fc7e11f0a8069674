-- The choice between two verdicts, test by test, is that between two plans; and what a choice hands back.
use mathlib.Core.Path.{◌≡◌, ap₂, ◌∙◌, subst}
use mathlib.Core.List.{List}
use Prim.Native.Nat.{ℕ, ◌≤◌, ◌<◌}
use borrow.Author.Tests.{eq-eqb, ne_eqb, le-leb, lt-leb}
use denote.Ref.{Bor}
use Rattle.meaning.specs.declared.Verdict.{Verdict}
use Rattle.meaning.specs.declared.Choice.{Choice}
use Rattle.meaning.specs.declared.Choice.TheVariants.{Neither, First, Second}
use Rattle.meaning.specs.Judge.{judge, choose_by, choice, handed_back}
use Rattle.chooser.specs.Handed.{Handed}

-- by which of the two pass, and by the shorter where both do
module _ (a b : Verdict) where
  pub none_passes : (a.outcome.number ≡ 0 → ⊥) → (b.outcome.number ≡ 0 → ⊥) → Neither ≡ choose_by a b
  none_passes x y = simp (ne_eqb a.outcome.number 0 x, ne_eqb b.outcome.number 0 y)

  pub second-passes : (a.outcome.number ≡ 0 → ⊥) → b.outcome.number ≡ 0 → Second ≡ choose_by a b
  second-passes x y = simp (ne_eqb a.outcome.number 0 x, eq-eqb b.outcome.number 0 y)

  pub first_passes : a.outcome.number ≡ 0 → (b.outcome.number ≡ 0 → ⊥) → First ≡ choose_by a b
  first_passes x y = simp (eq-eqb a.outcome.number 0 x, ne_eqb b.outcome.number 0 y)

  pub first-shorter : a.outcome.number ≡ 0 → b.outcome.number ≡ 0 → a.slots ≤ b.slots → First ≡ choose_by a b
  first-shorter x y h = simp (eq-eqb a.outcome.number 0 x, eq-eqb b.outcome.number 0 y, le-leb a.slots b.slots h)

  pub second-shorter : a.outcome.number ≡ 0 → b.outcome.number ≡ 0 → b.slots < a.slots → Second ≡ choose_by a b
  second-shorter x y h = simp (eq-eqb a.outcome.number 0 x, eq-eqb b.outcome.number 0 y, lt-leb a.slots b.slots h)

-- what the verdicts choose is the meaning's choice
pub chosen : (s first second : List ℕ) (a b : Verdict) (r : Choice) → a ≡ judge s first → b ≡ judge s second → r ≡ choose_by a b → r ≡ choice s first second
unfolding choice
chosen s first second a b r a_is b_is e = e ∙ ap₂ choose_by a_is b_is

-- what is handed back at a choice that is known
module _ (x y : Choice) (first second : Bor (List ℕ)) (is : x ≡ y) where
  pub bytes_back : (bytes : List ℕ) → bytes ≡ handed_back x first.now second.now → bytes ≡ handed_back y first.now second.now
  bytes_back bytes h = subst (λ (z : Choice). bytes ≡ handed_back z first.now second.now) is h

  pub handed : (r : Bor (List ℕ)) → Handed x first second r → Handed y first second r
  handed r h = subst (λ (z : Choice). Handed z first second r) is h
