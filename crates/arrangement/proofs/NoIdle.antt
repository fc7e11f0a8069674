-- A plan that passes and has no empty slot has no more slots than hops, whoever made it: each slot has a sender, and all sendings together are the hops. So it
-- has no more than the worst. With empty slots that is not so: any number of them may stand in a plan that passes.
use mathlib.Core.Path.{◌≡◌, refl}
use mathlib.Core.Bool.{true}
use mathlib.Core.List.{List, [], ◌∷◌}
use Prim.Native.Nat.{ℕ, suc, ◌+◌, ◌≤◌, ◌<◌}
use native.Mathlib.Omega.{arith}
use lib.ListN.{length, get_or}
use Rattle.meaning.specs.Yard.{branch_packets}
use Rattle.meaning.specs.Sheet.{probe_count, parent_of, packets_of, hops}
use Rattle.meaning.specs.Rounds.{moved}
use Rattle.meaning.specs.Answer.{is_accepted, sheet_test}
use Rattle.meaning.specs.Judge.{judge}
use Rattle.meaning.specs.Legal.{RunsIn, Runs, held_first}
use Rattle.laws.proofs.Moving.{weigh_all}
use Rattle.laws.proofs.Turns.{sum_same}
use Rattle.laws.proofs.Walk.{probe-yes}
use Rattle.limits.specs.Sent.{sent_in, sent}
use Rattle.limits.proofs.Sums.{together, together-add}
use Rattle.limits.proofs.Sending.{passing-sent}
use Rattle.limits.proofs.RunningSlots.{legal-listed}
use Rattle.meaning.specs.Plan.{slots_of_plan}
use Rattle.limits.proofs.PlanRuns.{passed-ran}
use Rattle.limits.proofs.SentByBranch.{sent-by-branch}
use Rattle.limits.proofs.BranchesHops.{branches-hops}
use Rattle.arrangement.specs.Arranged.{worst_slots}
use Rattle.arrangement.proofs.AtWorst.{hops-worst}

-- no slot is empty
abbrev pub Full : (slots : List (List ℕ)) → Type 0
Full slots = (k : ℕ) → k < length slots → 0 < length (get_or slots k [])

counts_all : (slot : List ℕ) → weigh_all (λ u. 1) slot ≡ length slot
unfolding weigh_all
counts_all [] = refl
counts_all (v ∷ slot) = omega (arith, counts_all slot)

module _ (s : List ℕ) (ok : is_accepted (sheet_test s) ≡ true) where
  full-sends : (held : List ℕ) (slots : List (List ℕ)) → Runs s held slots → Full slots → length slots ≤ together (probe_count s) (λ _. true) (sent slots)
  unfolding RunsIn sent
  full-sends held [] runs full = omega arith
  full-sends held (slot ∷ slots) runs full =
      let pass = legal-listed s ok held slot runs.0 in
      omega (
        arith,
        together-add (probe_count s) (λ _. true) (sent_in slot) (sent slots),
        passing-sent (probe_count s) (λ _. true) slot pass.probes,
        counts_all slot,
        full 0 (omega arith),
        full-sends (moved (parent_of s) slot held) slots runs.1 (λ k h. full (suc k) (omega arith)),
      )

pub full-hops : (s plan : List ℕ) → is_accepted (judge s plan).outcome ≡ true → Full (slots_of_plan plan) → (judge s plan).slots ≤ hops s
full-hops s plan h full =
    let ran = passed-ran s plan h in
    omega (
      arith,
      ran.counted,
      full-sends s ran.sheet (held_first s) (slots_of_plan plan) ran.runs full,
      sum_same (probe_count s) (λ k. sent (slots_of_plan plan) (k + 2)) (λ k. branch_packets (probe_count s) (parent_of s) (packets_of s) (k + 2))
          (λ k hk. sent-by-branch s plan h (k + 2) (probe-yes (probe_count s) (k + 2) (omega arith) (omega arith))),
      branches-hops s ran.sheet,
    )

pub full-worst : (s plan : List ℕ) → is_accepted (judge s plan).outcome ≡ true → Full (slots_of_plan plan) → (judge s plan).slots ≤ worst_slots s
full-worst s plan h full = omega (arith, full-hops s plan h full, hops-worst s (passed-ran s plan h).sheet)
