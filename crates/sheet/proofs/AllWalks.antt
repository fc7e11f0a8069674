-- The probes' walks, probe by probe as the code takes them: a walk that arrives gives no number and one level more, and the first that never arrives
-- decides.
use mathlib.Core.Path.{◌≡◌, refl, sym, ap, ◌∙◌}
use mathlib.Core.Bool.{Bool, cond}
use mathlib.Core.List.{List}
use Prim.Native.Nat.{ℕ, ◌+◌, ◌≤◌, ◌<◌}
use native.Mathlib.Decide.{dec_lt}
use native.Mathlib.Omega.{arith}
use lib.ListN.{set, replicate}
use Rattle.meaning.specs.declared.Level.{Level}
use Rattle.std.specs.Prelude.{Option, Some, None}
use Rattle.meaning.specs.declared.Refusal.{Refusal}
use Rattle.meaning.specs.Results.{outcome_of}
use Rattle.meaning.specs.Words.{tab, places}
use Rattle.meaning.specs.Yard.{is_probe, climb, climbed}
use Rattle.meaning.specs.Answer.{accepted, in_order, walk_gives, walk_test}
use Rattle.laws.proofs.Turns.{set-tab}
use Rattle.laws.proofs.Walk.{probe-yes, probe-below, probe-past}
use Rattle.walk.proofs.Climbing.{level_in, climbed-level}
use Rattle.sheet.specs.Tree.{levels_by, strayed}
use Rattle.sheet.proofs.Scan.{scan-starts, scan-next, scan-stops}

-- one probe more makes no other node a probe
one-more-probe : (k v : ℕ) → (v ≡ k + 2 → ⊥) → is_probe (k + 1) v ≡ is_probe k v
one-more-probe k v other = go (dec_lt v 2) (dec_lt (k + 1) v)
  where
    go : Dec (v < 2) → Dec (k + 1 < v) → is_probe (k + 1) v ≡ is_probe k v
    go (yes low) h = probe-below (k + 1) v low ∙ sym (probe-below k v low)
    go (no low) (yes high) = probe-past (k + 1) v (omega arith) ∙ sym (probe-past k v high)
    go (no low) (no high) = probe-yes (k + 1) v (omega arith) (omega arith) ∙ sym (probe-yes k v (omega arith) (omega arith))

module _ (parent : ℕ → ℕ) (p : ℕ) where
  -- the levels of the first k probes
  abbrev levels_to : ℕ → ℕ → ℕ
  levels_to k v = cond (is_probe k v) (climb parent p v) 0

  -- the first k probes arrive, and their levels are found
  pub record Walked (k : ℕ) (levels : List ℕ) : Type 0 where
    pub arrive : in_order k (walk_test parent p) ≡ accepted
    pub found : levels ≡ tab places (levels_to k)

  pub walks-start : Walked 0 (replicate places 0)
  unfolding tab
  walks-start = record { arrive = scan-starts _; found = refl }

  -- one walk more arrives
  pub walks_next : (k : ℕ) (levels : List ℕ) → Walked k levels → k < p → p ≤ 63 → (walk : Option Level) (level : Level) → walk ≡ climbed parent p (k + 2)
      → walk ≡ Some level → Walked (k + 1) (set levels (k + 2) level.0)
  unfolding walk_test
  walks_next k levels before within few walk level climbs is =
      record {
        arrive = scan-next _ _ before.arrive (ap (walk_gives (k + 2)) (sym is ∙ climbs));
        found =
            ap (λ (l : List ℕ). set l (k + 2) level.0) before.found
            ∙ set-tab places (levels_to k) (levels_to (k + 1)) (k + 2) level.0 0 (omega arith) here
            (λ v other. ap (λ (b : Bool). cond b (climb parent p v) 0) (one-more-probe k v other));
      }
    where
      here : levels_to (k + 1) (k + 2) ≡ level.0
      here =
          ap (λ (b : Bool). cond b (climb parent p (k + 2)) 0) (probe-yes (k + 1) (k + 2) (omega arith) (omega arith))
          ∙ sym (climbed-level parent p (k + 2))
          ∙ ap (level_in p) (sym climbs ∙ is)

  -- one never arrives
  pub walks-stray : (k : ℕ) (levels : List ℕ) → Walked k levels → k < p → (walk : Option Level) → walk ≡ climbed parent p (k + 2) → walk ≡ None
      → (refusal : Refusal) → outcome_of refusal ≡ strayed (k + 2) → outcome_of refusal ≡ in_order p (walk_test parent p)
  unfolding walk_test
  walks-stray k levels before within walk climbs is refusal stray =
      scan-stops _ _ before.arrive _ within refusal (stray ∙ ap (walk_gives (k + 2)) (sym is ∙ climbs))

  -- all have arrived
  pub walks-end : (k : ℕ) (levels : List ℕ) → Walked k levels → k ≡ p
      → (accepted ≡ in_order p (walk_test parent p)) × (levels ≡ levels_by parent p)
  walks-end k levels all whole = (sym (rw whole at all.arrive), rw whole at all.found)
