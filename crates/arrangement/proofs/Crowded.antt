-- Where any two probes conflict, at most one sends in a slot: each sends as often as its branch has packets, and the branches together have the hops.
use mathlib.Core.Path.{◌≡◌}
use mathlib.Core.Bool.{true}
use mathlib.Core.List.{List}
use Prim.Native.Nat.{ℕ, ◌+◌, ◌≤◌}
use native.Mathlib.Omega.{arith}
use Rattle.meaning.specs.Yard.{branch_packets}
use Rattle.meaning.specs.Sheet.{probe_count, parent_of, packets_of, hops}
use Rattle.meaning.specs.Answer.{is_accepted}
use Rattle.meaning.specs.Judge.{judge}
use Rattle.laws.proofs.Turns.{sum_same}
use Rattle.laws.proofs.Walk.{probe-yes}
use Rattle.limits.specs.Sent.{sent}
use Rattle.limits.proofs.BranchesHops.{branches-hops}
use Rattle.meaning.specs.Plan.{slots_of_plan}
use Rattle.limits.proofs.PlanRuns.{passed-ran}
use Rattle.limits.proofs.SentByBranch.{sent-by-branch}
use Rattle.limits.proofs.Exclusive.{Exclusive, exclusive-slots}

-- no plan that the judge passes for such a sheet has fewer slots than the sheet has hops
pub crowded-slots : (s plan : List ℕ) → is_accepted (judge s plan).outcome ≡ true → Exclusive s (λ _. true) → hops s ≤ (judge s plan).slots
crowded-slots s plan h all =
    omega (
      arith,
      branches-hops s (passed-ran s plan h).sheet,
      sum_same (probe_count s) (λ k. sent (slots_of_plan plan) (k + 2)) (λ k. branch_packets (probe_count s) (parent_of s) (packets_of s) (k + 2))
          (λ k hk. sent-by-branch s plan h (k + 2) (probe-yes (probe_count s) (k + 2) (omega arith) (omega arith))),
      exclusive-slots s plan h (λ _. true) all,
    )
