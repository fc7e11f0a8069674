-- The heaviest branch is one next to the gateway: a branch is a part of its parent's, so that, by recursion along the walk from its top to the gateway,
-- it has no more packets than the last branch on that walk.
use mathlib.Core.Path.{◌≡◌, refl, sym, ◌∙◌, subst}
use mathlib.Core.Bool.{Bool, true, false, cond}
use mathlib.Core.List.{List}
use mathlib.Core.Logic.{◌≢◌, ⊎_elim}
use Prim.Native.Nat.{ℕ, zero, suc, ◌+◌, ◌-◌, ◌≤◌}
use native.Mathlib.Nat.{le_refl}
use native.Mathlib.Omega.{arith}
use lib.Dec.{eqb}
use borrow.Author.Tests.{eq-eqb}
use Rattle.meaning.specs.Words.{most_probes}
use Rattle.meaning.specs.Yard.{is_probe, reaches, branch_packets}
use Rattle.meaning.specs.Sheet.{probe_count, parent_of, packets_of, heaviest}
use Rattle.meaning.specs.Answer.{is_accepted, sheet_test}
use Rattle.laws.proofs.Turns.{same-or-other, in_sum}
use Rattle.laws.proofs.Walk.{probe-yes, probe-least, probe-at, reaches-on, reaches-none}
use Rattle.laws.proofs.Levels.{most-holds, most-within}
use Rattle.limits.specs.Sent.{inflow}
use Rattle.limits.proofs.Branch.{Rooted, branch-own}
use Rattle.limits.proofs.AcceptedYard.{rooted}

-- what a probe has is a part of what its parent's children have together
in-inflow : (p : ℕ) (parent many : ℕ → ℕ) (v : ℕ) → is_probe p v ≡ true → many v ≤ inflow p parent many (parent v)
unfolding inflow
in-inflow p parent many v h =
    let at = probe-at p v h in
    let part = subst (λ (u : ℕ). cond (eqb (parent u) (parent v)) (many u) 0 ≤ inflow p parent many (parent v)) at.1
    (in_sum p (λ k. cond (eqb (parent (k + 2)) (parent v)) (many (k + 2)) 0) (v - 2) at.0) in
    rw (eq-eqb (parent v) (parent v) refl) at part

module _ (p : ℕ) (parent packets : ℕ → ℕ) (rooted : Rooted p parent) where
  abbrev branch : ℕ → ℕ
  branch = branch_packets p parent packets

  -- the packets of a branch next to the gateway, and 0 of any other
  abbrev top : ℕ → ℕ
  top v = cond (eqb (parent v) 1) (branch v) 0

  -- the branch of a probe is a part of its parent's
  part-of-parent : (v : ℕ) → is_probe p v ≡ true → is_probe p (parent v) ≡ true → branch v ≤ branch (parent v)
  part-of-parent v h up = omega (arith, in-inflow p parent branch v h, branch-own p parent rooted packets (parent v) up)

  -- a branch next to the gateway is one of those
  top-itself : (v : ℕ) → is_probe p v ≡ true → parent v ≡ 1 → branch v ≤ most_probes p top
  top-itself v h e =
      let at = probe-at p v h in
      let held = subst (λ (u : ℕ). top u ≤ most_probes p top) at.1 (most-holds p (λ k. top (k + 2)) (v - 2) at.0) in
      rw (eq-eqb (parent v) 1 e) at held

  -- any other is no more than one of those, the last on the walk to the gateway
  top-holds : (left v : ℕ) → is_probe p v ≡ true → reaches parent 1 left v ≡ true → branch v ≤ most_probes p top
  top-holds zero v h r = absurd (omega (arith, reaches-none parent 1 v r, probe-least p v h))
  top-holds (suc left) v h r =
      ⊎_elim (top-itself v h)
      (λ (more : parent v ≢ 1).
      let least = probe-least p v h in
      let inside = rooted.inside v h in
      let up = probe-yes p (parent v) (omega arith) inside.1 in
      omega (arith, part-of-parent v h up, top-holds left (parent v) up (sym (reaches-on parent 1 left v (λ e. omega arith)) ∙ r)))
      (same-or-other (parent v) 1)

  top_least : (v : ℕ) → top v ≤ branch v
  top_least v = go (eqb (parent v) 1)
    where
      go : (b : Bool) → cond b (branch v) 0 ≤ branch v
      go true = le_refl (branch v)
      go false = omega arith

  heaviest-top : most_probes p branch ≡ most_probes p top
  heaviest-top =
      omega (
        arith,
        most-within p (λ k. branch (k + 2)) (most_probes p top)
            (λ k h.
            let probe = probe-yes p (k + 2) (omega arith) (omega arith) in
            top-holds p (k + 2) probe (rooted.arrives (k + 2) probe)),
        most-within p (λ k. top (k + 2)) (most_probes p branch) (λ k h. omega (arith, top_least (k + 2), most-holds p (λ j. branch (j + 2)) k h)),
      )

-- "The lister": the heaviest branch is that of a probe whose parent is the gateway
pub heaviest-at-top : (s : List ℕ) → is_accepted (sheet_test s) ≡ true
    → heaviest s ≡ most_probes (probe_count s) (λ v. cond (eqb (parent_of s v) 1) (branch_packets (probe_count s) (parent_of s) (packets_of s) v) 0)
unfolding heaviest
heaviest-at-top s ok = heaviest-top (probe_count s) (parent_of s) (packets_of s) (rooted s ok)
