-- With no probes there is nothing to sum up and nothing to be largest, so that the limits, the hops, the largest degree and the colours are 0.
use mathlib.Core.Path.{◌≡◌, ap, ◌∙◌}
use mathlib.Core.Bool.{true}
use mathlib.Core.List.{List}
use Prim.Native.Nat.{ℕ, ◌+◌, ◌*◌, max}
use Rattle.meaning.specs.Words.{sum, most, sum_probes, most_probes}
use Rattle.meaning.specs.Yard.{branch_packets, branch_lag, hears_and_sends}
use Rattle.meaning.specs.Sheet.{probe_count, parent_of, packets_of, level_of, hops, slowest, least_slots}
use Rattle.meaning.specs.Conflict.{entry, conflict_table, degree, largest_degree}
use Rattle.meaning.specs.Colour.{colours_used, probe_colours}
use Rattle.meaning.specs.Answer.{is_accepted, sheet_test}
use Rattle.limits.proofs.ColoursFew.{colours-none}

no-sum : (p : ℕ) (f : ℕ → ℕ) → p ≡ 0 → sum_probes p f ≡ 0
unfolding sum
no-sum p f none = ap (λ (n : ℕ). sum_probes n f) none

no-most : (p : ℕ) (f : ℕ → ℕ) → p ≡ 0 → most_probes p f ≡ 0
unfolding most
no-most p f none = ap (λ (n : ℕ). most_probes n f) none

module _ (s : List ℕ) (none : probe_count s ≡ 0) where
  no-degree : largest_degree s ≡ 0
  no-degree = no-most (probe_count s) (degree (entry (conflict_table s))) none

  no-least : least_slots s ≡ 0
  unfolding least_slots
  no-least =
      ap (λ (n : ℕ). max n (most_probes (probe_count s) (hears_and_sends (probe_count s) (parent_of s) (packets_of s)))) (no-sum (probe_count s) (packets_of s) none)
      ∙ ap (max 0) (no-most (probe_count s) (hears_and_sends (probe_count s) (parent_of s) (packets_of s)) none)

  no-slowest : slowest s ≡ 0
  unfolding slowest
  no-slowest =
      no-most (probe_count s)
      (λ top. branch_packets (probe_count s) (parent_of s) (packets_of s) top + branch_lag (probe_count s) (parent_of s) (packets_of s) top) none

  no-hop : hops s ≡ 0
  unfolding hops
  no-hop = no-sum (probe_count s) (λ v. packets_of s v * level_of s v) none

  pub nothing-to-read : is_accepted (sheet_test s) ≡ true
      → (colours_used (probe_colours s) ≡ 0) × (largest_degree s ≡ 0) × (least_slots s ≡ 0) × (slowest s ≡ 0) × (hops s ≡ 0)
  nothing-to-read ok = (colours-none s ok none, no-degree, no-least, no-slowest, no-hop)
