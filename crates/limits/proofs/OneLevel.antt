-- Two probes that conflict and whose levels have one colour stand on one level: otherwise their levels conflict, and the colours of levels keep those
-- apart.
use mathlib.Core.Path.{◌≡◌, sym, ap, ap₂, ◌∙◌, subst}
use mathlib.Core.Bool.{Bool, true, false, not, ◌&&◌}
use mathlib.Core.List.{List, []}
use mathlib.Core.Logic.{◌≢◌, ⊎_elim}
use Prim.Native.Nat.{ℕ, ◌+◌, ◌-◌, ◌<◌}
use native.Mathlib.Omega.{arith}
use lib.Dec.{eqb}
use lib.ListN.{get_or}
use borrow.Author.Tests.{eq-eqb, ne_eqb}
use Rattle.meaning.specs.Words.{some_probe, tab, places}
use Rattle.meaning.specs.Yard.{is_probe}
use Rattle.meaning.specs.Sheet.{probe_count, level_of}
use Rattle.meaning.specs.Conflict.{entry, table_of, conflict_table}
use Rattle.meaning.specs.Colour.{levels_conflict, levels, level_colours}
use Rattle.meaning.specs.Answer.{is_accepted, sheet_test}
use Rattle.laws.proofs.Turns.{some-found, get_or-tab, same-or-other}
use Rattle.laws.proofs.Walk.{probe-yes, probe-most, probe-at}
use Rattle.laws.proofs.Grounds.{few-probes, level_most}
use Rattle.laws.proofs.Levels.{table-conflicts, levels-proper}

-- a probe of each of two levels that conflict
levels-conflict : (p : ℕ) (level : ℕ → ℕ) (relation : ℕ → ℕ → Bool) (a b x y : ℕ) → is_probe p x ≡ true → is_probe p y ≡ true → level x ≡ a → level y ≡ b
    → (a ≡ b → ⊥) → relation x y ≡ true → levels_conflict p level relation a b ≡ true
unfolding levels_conflict
levels-conflict p level relation a b x y hx hy here there other e =
    let at_x = probe-at p x hx in
    let at_y = probe-at p y hy in
    ap₂ (λ (s t : Bool). not s && t) (ne_eqb a b other)
    (some-found p (λ i. eqb (level (i + 2)) a && some_probe p (λ v. eqb (level v) b && relation (i + 2) v)) (x - 2) at_x.0
    (subst (λ (u : ℕ). (eqb (level u) a && some_probe p (λ v. eqb (level v) b && relation u v)) ≡ true) (sym at_x.1)
    (ap₂ ◌&&◌ (eq-eqb (level x) a here)
    (some-found p (λ j. eqb (level (j + 2)) b && relation x (j + 2)) (y - 2) at_y.0
    (subst (λ (u : ℕ). (eqb (level u) b && relation x u) ≡ true) (sym at_y.1) (ap₂ ◌&&◌ (eq-eqb (level y) b there) e))))))

table-reads : (relation : ℕ → ℕ → Bool) (a b : ℕ) → a < places → b < places → entry (table_of relation) a b ≡ relation a b
table-reads relation a b ha hb =
    ap (λ (row : List Bool). get_or row b false) (get_or-tab places (λ x. tab places (relation x)) a [] ha) ∙ get_or-tab places (relation a) b false hb

module _ (s : List ℕ) (ok : is_accepted (sheet_test s) ≡ true) where
  level-reads : (v : ℕ) → is_probe (probe_count s) v ≡ true → get_or (levels s) v 0 ≡ level_of s v
  unfolding levels
  level-reads v h = get_or-tab places (level_of s) v 0 (omega (arith, probe-most (probe_count s) v h, few-probes s ok))

  level-place : (v : ℕ) → level_of s v < places
  level-place v = omega (arith, level_most s ok v, few-probes s ok)

  pub one-level : (x y : ℕ) → entry (conflict_table s) x y ≡ true → get_or (level_colours s) (level_of s x) 0 ≡ get_or (level_colours s) (level_of s y) 0
      → level_of s x ≡ level_of s y
  one-level x y e same =
      ⊎_elim (λ (q : level_of s x ≡ level_of s y). q)
      (λ (n : level_of s x ≢ level_of s y).
      let from = (table-conflicts s ok).within x y e in
      let to = (table-conflicts s ok).within y x ((table-conflicts s ok).both_ways x y e) in
      let hx = probe-yes (probe_count s) x from.0 (omega (arith, from.1)) in
      let hy = probe-yes (probe_count s) y to.0 (omega (arith, to.1)) in
      absurd
      ((levels-proper s ok).apart (level_of s x) (level_of s y)
      (table-reads (levels_conflict (probe_count s) (λ v. get_or (levels s) v 0) (entry (conflict_table s))) (level_of s x) (level_of s y) (level-place x) (level-place y)
      ∙ levels-conflict (probe_count s) (λ v. get_or (levels s) v 0) (entry (conflict_table s)) (level_of s x) (level_of s y) x y hx hy (level-reads x hx) (level-reads y hy) n e)
      same))
      (same-or-other (level_of s x) (level_of s y))
