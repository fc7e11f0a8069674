-- In slots that run and bring every packet in, each probe sends exactly as often as its branch has packets: by conservation, what it sends is its own
-- packets and what its children send, as the packets of a branch are.
use mathlib.Core.Path.{◌≡◌}
use mathlib.Core.Bool.{true}
use mathlib.Core.List.{List}
use Prim.Native.Nat.{ℕ}
use native.Mathlib.Omega.{arith}
use Rattle.meaning.specs.Words.{places}
use Rattle.meaning.specs.Yard.{is_probe, branch_packets}
use Rattle.meaning.specs.Sheet.{probe_count, parent_of, packets_of}
use Rattle.meaning.specs.Rounds.{held_after}
use Rattle.meaning.specs.Answer.{is_accepted, sheet_test}
use Rattle.meaning.specs.Judge.{judge}
use Rattle.meaning.specs.Legal.{Runs, held_first, Arrived}
use Rattle.laws.proofs.Turns.{length-tab}
use Rattle.laws.proofs.Walk.{probe-most}
use Rattle.laws.proofs.Grounds.{packets-read}
use Rattle.limits.specs.Sent.{sent}
use Rattle.limits.proofs.Branch.{only-branch}
use Rattle.limits.proofs.RunningSlots.{runs-balance}
use Rattle.meaning.specs.Plan.{slots_of_plan}
use Rattle.limits.proofs.PlanRuns.{passed-ran}
use Rattle.limits.proofs.AcceptedYard as Yard

module _ (s : List ℕ) (ok : is_accepted (sheet_test s) ≡ true) (slots : List (List ℕ)) (runs : Runs s (held_first s) slots)
    (arrived : Arrived s (held_after (parent_of s) (held_first s) slots)) where
  pub branch-sent : (v : ℕ) → is_probe (probe_count s) v ≡ true → sent slots v ≡ branch_packets (probe_count s) (parent_of s) (packets_of s) v
  branch-sent =
      only-branch (probe_count s) (parent_of s) (Yard.rooted s ok) (packets_of s) (sent slots)
      (λ v h.
      omega (
        arith,
        runs-balance s ok (held_first s) slots (length-tab places (packets_of s)) runs v (omega (arith, probe-most (probe_count s) v h, Yard.few s ok)),
        arrived v h,
        packets-read s ok v,
      ))

-- so in every plan that the judge passes, from anyone
pub sent-by-branch : (s plan : List ℕ) → is_accepted (judge s plan).outcome ≡ true → (v : ℕ) → is_probe (probe_count s) v ≡ true
    → sent (slots_of_plan plan) v ≡ branch_packets (probe_count s) (parent_of s) (packets_of s) v
sent-by-branch s plan h =
    let ran = passed-ran s plan h in
    branch-sent s ran.sheet (slots_of_plan plan) ran.runs ran.arrived
