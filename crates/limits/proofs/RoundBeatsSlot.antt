-- A round by probe does at least what a slot of any passed plan does: in a round every holder sends, in a slot none sends more than one packet, and only
-- one that it holds. So as many rounds as that plan has slots bring all packets home, and a round has at most a slot for each colour.
use mathlib.Core.Path.{◌≡◌, refl, ap}
use mathlib.Core.Bool.{true}
use mathlib.Core.List.{List}
use Prim.Native.Nat.{ℕ, ◌+◌, ◌*◌, ◌≤◌, ◌<◌}
use native.Mathlib.Nat.{le_refl, mul-le-mul}
use native.Mathlib.Omega.{arith}
use lib.ListN.{length, take}
use lib.Seq.{take_all}
use Rattle.meaning.specs.declared.Mode.TheVariants.{Packets}
use Rattle.meaning.specs.Words.{places}
use Rattle.meaning.specs.Yard.{is_probe}
use Rattle.meaning.specs.Sheet.{probe_count, parent_of, packets_of}
use Rattle.meaning.specs.Conflict.{largest_degree}
use Rattle.meaning.specs.Colour.{colours_used, probe_colours}
use Rattle.meaning.specs.Rounds.{by_probe, slots_of}
use Rattle.meaning.specs.Answer.{is_accepted, sheet_test}
use Rattle.meaning.specs.Judge.{judge}
use Rattle.meaning.specs.Legal.{Runs, held_first}
use Rattle.laws.proofs.Turns.{length-tab}
use Rattle.laws.proofs.Walk.{probe-most}
use Rattle.laws.proofs.Grounds.{packets-read}
use Rattle.limits.specs.Sent.{sent}
use Rattle.limits.proofs.Served.{never-ahead}
use Rattle.limits.proofs.Serving.{after}
use Rattle.limits.proofs.RunningSlots.{one-slot-more}
use Rattle.meaning.specs.Plan.{slots_of_plan}
use Rattle.limits.proofs.PlanRuns.{passed-ran}
use Rattle.limits.proofs.SentByBranch.{sent-by-branch}
use Rattle.limits.proofs.MostByProbe.{by, serves-probe, rounds-enough}
use Rattle.limits.proofs.ColoursFew.{colours-degree}
use Rattle.limits.proofs.AcceptedYard as Yard

-- slots that run: after r of them no probe has sent more than in r rounds by probe
module _ (s : List ℕ) (ok : is_accepted (sheet_test s) ≡ true) (slots : List (List ℕ)) (runs : Runs s (held_first s) slots) where
  none_first : (v : ℕ) → sent (take 0 slots) v ≡ 0
  unfolding sent
  none_first v = refl

  pub slots-not-ahead : (r v : ℕ) → is_probe (probe_count s) v ≡ true → sent (take r slots) v ≤ sent (after Packets s ok (by s ok) r).slots v
  slots-not-ahead =
      never-ahead (probe_count s) (parent_of s) (packets_of s) (λ r. sent (after Packets s ok (by s ok) r).slots) (λ r. sent (take r slots))
      (λ r v h. serves-probe s ok v h r) none_first
      (λ r v h.
      let node : v < places = omega (arith, probe-most (probe_count s) v h, Yard.few s ok) in
      let more = one-slot-more s ok (held_first s) slots r (length-tab places (packets_of s)) runs v node in
      (more.0, omega (arith, more.1, packets-read s ok v)))

-- the slots by probe are at most their colours times the slots of any plan that the judge passes, from anyone
pub by-probe-any : (s plan : List ℕ) → is_accepted (judge s plan).outcome ≡ true
    → length (slots_of s (by_probe s)) ≤ colours_used (probe_colours s) * (judge s plan).slots
by-probe-any s plan h =
    let ran = passed-ran s plan h in
    let slots : List (List ℕ) = slots_of_plan plan in
    let r : ℕ = (judge s plan).slots in
    rounds-enough s ran.sheet r
    (λ v hv.
    omega (
      arith,
      sent-by-branch s plan h v hv,
      slots-not-ahead s ran.sheet slots ran.runs r v hv,
      ap (λ (l : List (List ℕ)). sent l v) (take_all r slots (omega (arith, ran.counted))),
    ))

-- so at most one more than the largest degree times them
pub by-probe-degree : (s plan : List ℕ) → is_accepted (judge s plan).outcome ≡ true
    → length (slots_of s (by_probe s)) ≤ (largest_degree s + 1) * (judge s plan).slots
by-probe-degree s plan h =
    let few = colours-degree s (passed-ran s plan h).sheet in
    omega (arith, by-probe-any s plan h, mul-le-mul few (le_refl (judge s plan).slots))
