-- A child of a node that passes a test: where some child does, one is found, and none does exactly where each child does not. By the laws of `some`, over the
-- probes.
use mathlib.Core.Path.{◌≡◌, ap, ap₂, subst}
use mathlib.Core.Bool.{Bool, true, false, ◌&&◌}
use mathlib.Core.Logic.{⊎_elim}
use Prim.Native.Nat.{ℕ, ◌+◌, ◌-◌}
use native.Mathlib.Omega.{arith}
use lib.Dec.{eqb}
use borrow.Author.Tests.{eqb-true, eq-eqb}
use Rattle.meaning.specs.Words.{some_probe}
use Rattle.meaning.specs.Yard.{is_probe}
use Rattle.laws.proofs.Turns.{some-where, some-none, none-some}
use Rattle.laws.proofs.Walk.{probe-yes, probe-at}
use Rattle.laws.proofs.Slots.{and_left, and_right, true-or-false}

-- some child of v passes the test
abbrev pub child : (p : ℕ) → (parent : ℕ → ℕ) → (test : ℕ → Bool) → ℕ → Bool
child p parent test v = some_probe p (λ c. eqb (parent c) v && test c)

module _ (p : ℕ) (parent : ℕ → ℕ) (test : ℕ → Bool) (v : ℕ) where
  -- where some child does, one is found
  pub child-found : child p parent test v ≡ true → (c : ℕ) × (is_probe p c ≡ true) × (parent c ≡ v) × (test c ≡ true)
  child-found some =
      let found = some-where p (λ k. eqb (parent (k + 2)) v && test (k + 2)) some in
      let c : ℕ = found.0 + 2 in (
        c,
        probe-yes p c (omega arith) (omega (arith, found.1)),
        eqb-true (parent c) v (and_left (eqb (parent c) v) (test c) found.2),
        and_right (eqb (parent c) v) (test c) found.2,
      )

  -- none does, said child by child: it follows from that, and that from it
  pub no-child : ((c : ℕ) → is_probe p c ≡ true → parent c ≡ v → test c ≡ false) → child p parent test v ≡ false
  no-child none =
      none-some p (λ k. eqb (parent (k + 2)) v && test (k + 2))
      (λ k h.
      ⊎_elim (λ its. ap₂ ◌&&◌ its (none (k + 2) (probe-yes p (k + 2) (omega arith) (omega arith)) (eqb-true (parent (k + 2)) v its)))
      (λ other. ap (λ (b : Bool). b && test (k + 2)) other)
      (true-or-false (eqb (parent (k + 2)) v)))

  pub of-no-child : child p parent test v ≡ false → (c : ℕ) → is_probe p c ≡ true → parent c ≡ v → test c ≡ false
  of-no-child none c probe its =
      let at = probe-at p c probe in
      let there = some-none p (λ k. eqb (parent (k + 2)) v && test (k + 2)) none (c - 2) at.0 in
      let here = subst (λ (u : ℕ). (eqb (parent u) v && test u) ≡ false) at.1 there in
      subst (λ (b : Bool). (b && test c) ≡ false) (eq-eqb (parent c) v its) here
