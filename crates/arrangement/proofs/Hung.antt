-- A written sheet whose probes hang below the gateway is accepted, and has the levels that they hang at: a walk from a probe comes down one level
-- with each hop, so that it arrives after as many hops as its level.
use mathlib.Core.Path.{◌≡◌, refl, ap, ap₂, ◌∙◌, sym}
use mathlib.Core.Bool.{Bool, true, cond}
use mathlib.Core.List.{List}
use mathlib.Core.Logic.{⊎_elim}
use Prim.Native.Nat.{ℕ, zero, suc, ◌+◌, ◌*◌, ◌/◌, ◌≤◌, ◌<◌}
use native.Mathlib.Omega.{arith}
use borrow.Author.Tests.{le-ltb, ne_eqb}
use lib.ListN.{length}
use Rattle.meaning.specs.declared.Outcome.{Outcome}
use Rattle.meaning.specs.Words.{for_each, sum_probes}
use Rattle.meaning.specs.Yard.{is_probe, reaches, climb, climbed}
use Rattle.meaning.specs.Sheet.{probe_records, parent_of, packets_of, level_of, hops}
use Rattle.meaning.specs.Answer.{accepted, is_accepted, ◌then◌, in_order, probe_test, walk_test, pair_test, sheet_test}
use Rattle.laws.proofs.Turns.{same-or-other, for_each-stays, sum_same}
use Rattle.laws.proofs.Walk.{probe-yes, probe-least, probe-most, reaches_here, reaches-on, climb-here, climb-on}
use Rattle.laws.proofs.Accepted.{then-goes}
use Rattle.arrangement.proofs.Written.{written, written-first, written-second, written-pairs, written-records, written-counts, probe-parent, probe-packets}

-- tests that give no number
pub all-accepted : (n : ℕ) (test : ℕ → Outcome) → ((k : ℕ) → k < n → test k ≡ accepted) → in_order n test ≡ accepted
unfolding in_order for_each
all-accepted n test each =
    for_each-stays 0 n (λ k found. found then test k) accepted accepted (omega arith) refl
    (λ k _ hk. then-goes accepted (test k) refl ∙ each k hk)

both-accepted : (a b : Outcome) → a ≡ accepted → b ≡ accepted → (a then b) ≡ accepted
both-accepted a b ea eb = then-goes a b (ap (λ (o : Outcome). is_accepted o) ea) ∙ eb

-- probes with few packets, each one level above its parent, which is the gateway or a probe
pub record Hangs (p : ℕ) (parent packets level : ℕ → ℕ) : Type 0 where
  pub parent_least : (v : ℕ) → is_probe p v ≡ true → 1 ≤ parent v
  pub parent_most : (v : ℕ) → is_probe p v ≡ true → parent v ≤ p + 1
  pub packets_most : (v : ℕ) → is_probe p v ≡ true → packets v ≤ 15
  pub gateway : level 1 ≡ 0
  pub up : (v : ℕ) → is_probe p v ≡ true → level v ≡ suc (level (parent v))
  pub level_most : (v : ℕ) → is_probe p v ≡ true → level v ≤ p

module _ (p : ℕ) (parent packets level : ℕ → ℕ) (hangs : Hangs p parent packets level) (q : ℕ) (pairs : List ℕ) where
  abbrev w : List ℕ
  w = written p parent packets q pairs

  probe-of : (k : ℕ) → k < p → is_probe p (k + 2) ≡ true
  probe-of k h = probe-yes p (k + 2) (omega arith) (omega arith)

  -- no probe is its own parent
  parent_other : (v : ℕ) → is_probe p v ≡ true → parent v ≡ v → ⊥
  parent_other v h e = omega (arith, hangs.up v h, ap level e)

  -- "Numbers returned": 4 and 5 are not given
  record-passes : (k : ℕ) → k < p → probe_test (probe_records w) p k ≡ accepted
  unfolding probe_test ◌then◌
  record-passes k h =
      let probe = probe-of k h in
      rw (
        written-first p parent packets q pairs k h,
        written-second p parent packets q pairs k h,
        ne_eqb (parent (k + 2)) 0 (λ e. omega (arith, hangs.parent_least (k + 2) probe)),
        le-ltb (p + 1) (parent (k + 2)) (hangs.parent_most (k + 2) probe),
        ne_eqb (parent (k + 2)) (k + 2) (parent_other (k + 2) probe),
        le-ltb 15 (packets (k + 2)) (hangs.packets_most (k + 2) probe),
      )

  pub hung-records : in_order p (probe_test (probe_records w) p) ≡ accepted
  hung-records = all-accepted p (probe_test (probe_records w) p) record-passes

  -- a walk from v arrives, with as many hops as its level
  abbrev Walks : (left v : ℕ) → Type 0
  Walks left v = (reaches (parent_of w) 1 left v ≡ true) × (climb (parent_of w) left v ≡ level v)

  at-gateway : (left v : ℕ) → v ≡ 1 → Walks left v
  at-gateway left v e = (
    reaches_here (parent_of w) 1 left v e,
    climb-here (parent_of w) left v e ∙ sym hangs.gateway ∙ ap level (sym e),
  )

  from-parent : (left v : ℕ) → (v ≡ 1 → ⊥) → is_probe p v ≡ true → Walks left (parent v) → Walks (suc left) v
  from-parent left v ne h rest =
      let to : parent_of w v ≡ parent v = probe-parent p parent packets q pairs v h in (
        reaches-on (parent_of w) 1 left v ne ∙ ap (reaches (parent_of w) 1 left) to ∙ rest.0,
        climb-on (parent_of w) left v ne ∙ ap (λ (u : ℕ). suc (climb (parent_of w) left u)) to ∙ ap suc rest.1 ∙ sym (hangs.up v h),
      )

  walks : (left v : ℕ) → 1 ≤ v → v ≤ p + 1 → level v ≤ left → Walks left v
  walks zero v low high deep =
      ⊎_elim (at-gateway 0 v) (λ ne. absurd (omega (arith, hangs.up v (probe-yes p v (omega arith) high)))) (same-or-other v 1)
  walks (suc left) v low high deep =
      ⊎_elim (at-gateway (suc left) v)
      (λ ne.
      let h = probe-yes p v (omega arith) high in
      from-parent left v ne h (walks left (parent v) (hangs.parent_least v h) (hangs.parent_most v h) (omega (arith, hangs.up v h))))
      (same-or-other v 1)

  probe-walks : (v : ℕ) → is_probe p v ≡ true → Walks p v
  probe-walks v h = walks p v (omega (arith, probe-least p v h)) (probe-most p v h) (hangs.level_most v h)

  -- "Numbers returned": 6 is not given
  walk-passes : (k : ℕ) → k < p → walk_test (parent_of w) p k ≡ accepted
  unfolding walk_test climbed
  walk-passes k h = rw (probe-walks (k + 2) (probe-of k h)).0

  pub hung-walks : in_order p (walk_test (parent_of w) p) ≡ accepted
  hung-walks = all-accepted p (walk_test (parent_of w) p) walk-passes

  pub hung-level : (v : ℕ) → is_probe p v ≡ true → level_of w v ≡ level v
  unfolding level_of
  hung-level v h = ap (λ (b : Bool). cond b (climb (parent_of w) p v) 0) h ∙ (probe-walks v h).1

  pub hung-hops : hops w ≡ sum_probes p (λ v. packets v * level v)
  unfolding hops
  hung-hops =
      sum_same p (λ k. packets_of w (k + 2) * level_of w (k + 2)) (λ k. packets (k + 2) * level (k + 2))
      (λ k h. ap₂ ◌*◌ (probe-packets p parent packets q pairs (k + 2) (probe-of k h)) (hung-level (k + 2) (probe-of k h)))

  -- with pairs that pass, as many as the counts say
  pub hung-accepted : p ≤ 63 → q ≤ p * (p + 1) / 2 → length pairs ≡ 2 * q → in_order q (pair_test pairs p) ≡ accepted → sheet_test w ≡ accepted
  unfolding sheet_test
  hung-accepted few possible long passes =
      both-accepted _ _ (written-counts p parent packets q pairs long few possible)
      (both-accepted _ _ hung-records
      (both-accepted _ _ hung-walks
      (ap₂ (λ (n : ℕ) (its : List ℕ). in_order n (pair_test its p)) (written-pairs p parent packets q pairs) (written-records p parent packets q pairs)
      ∙ passes)))

  pub hung-ok : p ≤ 63 → q ≤ p * (p + 1) / 2 → length pairs ≡ 2 * q → in_order q (pair_test pairs p) ≡ accepted → is_accepted (sheet_test w) ≡ true
  hung-ok few possible long passes = ap (λ (o : Outcome). is_accepted o) (hung-accepted few possible long passes)
