-- The colours of a sheet's probes are at most one more than the largest degree: each probe's colour is at most one more than its own degree, and no other
-- node has a colour.
use mathlib.Core.Path.{◌≡◌}
use mathlib.Core.Bool.{true, false}
use mathlib.Core.List.{List}
use mathlib.Core.Logic.{⊎_elim}
use Prim.Native.Nat.{ℕ, ◌+◌, ◌≤◌}
use native.Mathlib.Omega.{arith}
use lib.ListN.{get_or}
use Rattle.meaning.specs.Words.{most_probes, places}
use Rattle.meaning.specs.Yard.{is_probe}
use Rattle.meaning.specs.Sheet.{probe_count}
use Rattle.meaning.specs.Conflict.{entry, conflict_table, degree, largest_degree}
use Rattle.meaning.specs.Colour.{colours_used, probe_colours}
use Rattle.meaning.specs.Answer.{is_accepted, sheet_test}
use Rattle.laws.proofs.Walk.{not-both, probe-yes, probe-least, probe-most}
use Rattle.laws.proofs.Slots.{true-or-false}
use Rattle.laws.proofs.Levels.{most-within, probes-proper}
use Rattle.limits.proofs.Lag.{most-over, over-most}

module _ (s : List ℕ) (ok : is_accepted (sheet_test s) ≡ true) where
  -- with or without probes: the largest of what each degree allows
  pub colours-most : colours_used (probe_colours s) ≤ most_probes (probe_count s) (λ v. degree (entry (conflict_table s)) v + 1)
  colours-most =
      most-within places (λ v. get_or (probe_colours s) v 0) (most_probes (probe_count s) allowed)
      (λ v _.
      ⊎_elim
      (λ (e : is_probe (probe_count s) v ≡ true). omega (arith, (probes-proper s ok).few v, over-most (probe_count s) allowed v e))
      (λ (e : is_probe (probe_count s) v ≡ false).
      omega (arith, (probes-proper s ok).outside v (λ from to. not-both (probe-yes (probe_count s) v from (omega arith)) e)))
      (true-or-false (is_probe (probe_count s) v)))
    where
      allowed : ℕ → ℕ
      allowed v = degree (entry (conflict_table s)) v + 1

  -- so one more than the largest degree is enough
  pub colours-degree : colours_used (probe_colours s) ≤ largest_degree s + 1
  colours-degree =
      omega (
        arith,
        colours-most,
        most-over (probe_count s) (λ v. degree (entry (conflict_table s)) v + 1) (largest_degree s + 1)
            (λ v h. omega (arith, over-most (probe_count s) (degree (entry (conflict_table s))) v h)),
      )

  -- and with no probes there is no colour
  pub colours-none : probe_count s ≡ 0 → colours_used (probe_colours s) ≡ 0
  colours-none none =
      omega (
        arith,
        colours-most,
        most-over (probe_count s) (λ v. degree (entry (conflict_table s)) v + 1) 0
            (λ v h. absurd (omega (arith, none, probe-least (probe_count s) v h, probe-most (probe_count s) v h))),
      )
