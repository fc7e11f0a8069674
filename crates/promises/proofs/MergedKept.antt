-- What is promised of merged readings: the planner's answer by the laws of any way, the judge by its exactness, and the limits by those of our plan and of good plans.
use mathlib.Core.Path.{◌≡◌}
use mathlib.Core.List.{List}
use Prim.Native.Nat.{ℕ, ◌*◌, ◌≤◌}
use lib.ListN.{take}
use Rattle.meaning.specs.declared.Mode.TheVariants.{Merged}
use Rattle.meaning.specs.Words.{Bytes}
use Rattle.meaning.specs.Sheet.{deciding_sheet, probe_count}
use Rattle.meaning.specs.Plan.{deciding_merged, plan_bytes, room_for, front}
use Rattle.meaning.specs.Colour.{depth}
use Rattle.meaning.specs.Rounds.{merged}
use Rattle.meaning.specs.Answer.{accepted, sheet_test, refused_plan, merged_made}
use Rattle.meaning.specs.Judge.{judge_in, judgement_in}
use Rattle.meaning.specs.Merged.{MergedGood, merged_asked}
use Rattle.laws.proofs.Own.{merged_plan as own_merged}
use Rattle.laws.proofs.MergedExact.{merged-passed-good}
use Rattle.limits.proofs.Deciding.{plan-made-decided}
use Rattle.limits.proofs.DecidingPlan.{merged-plan-decided, merged-plan-judgement-decided}
use Rattle.limits.proofs.MergedMost.{merged-most}
use Rattle.merged.proofs.MergedLimits.{passed-depth, least-any}
use Rattle.promises.specs.Answers.{AnswersIn, counted_in, Accepted, Refused, Byte, numbers}
use Rattle.promises.specs.MergedReadings.{merged_slots, merged_answer, merged_plan, MergedRoom, MergedShort, MergedPasses}
use Rattle.promises.proofs.PlanAnswered.{sheet-refused, room-refused, is-planned, is-passed}
use Rattle.promises.proofs.Bytes.{bytes_below}

module _ (s buffer : Bytes) where
  pub merges : Accepted s → MergedRoom s buffer → AnswersIn Merged merged s buffer (counted_in Merged merged s) (front buffer (plan_bytes (merged_slots s)))
  merges ok room = is-planned Merged merged s buffer (own_merged s ok) ok room

  pub merges-nothing : Refused s → AnswersIn Merged merged s buffer (refused_plan (sheet_test s)) buffer
  merges-nothing refused = sheet-refused Merged merged s buffer refused

  pub merges-short : Accepted s → MergedShort s buffer → AnswersIn Merged merged s buffer (refused_plan (record { number = 9; place = 0 })) buffer
  merges-short ok short = room-refused Merged merged s buffer ok short

  pub merged-passes : Accepted s → MergedRoom s buffer
      → judge_in Merged s (merged_plan s buffer) ≡ record { outcome = accepted; slots = (merged_answer s buffer).slots }
  merged-passes ok room = is-passed Merged merged s buffer (own_merged s ok) ok room

  pub merged-few : Accepted s → MergedRoom s buffer
      → ((merged_answer s buffer).slots ≤ (merged_answer s buffer).colours * depth s)
      × ((merged_answer s buffer).slots ≤ probe_count s)
      × ((merged_answer s buffer).bytes ≤ room_for (probe_count s))
  unfolding merged
  merged-few ok room =
      let made = (merges ok room).0 in
      (rw made (merged-most s ok), rw made (own_merged s ok).few, rw made (own_merged s ok).room)

pub merged-made-decided : (s : Bytes) (room : ℕ) → merged_made (take deciding_sheet s) room ≡ merged_made s room
merged-made-decided s room = plan-made-decided Merged merged s room

module _ (s : Bytes) (plan : List Byte) where
  pub merged-bytes-good : MergedPasses s (numbers plan) → MergedGood s (numbers plan)
  merged-bytes-good = merged-passed-good s (numbers plan) (bytes_below plan 0) (bytes_below plan 1)

  pub merged-deep : MergedPasses s (numbers plan) → depth s ≤ (judge_in Merged s (numbers plan)).slots
  merged-deep = passed-depth s (numbers plan) (bytes_below plan 0) (bytes_below plan 1)

  pub merged-least : MergedPasses s (numbers plan) → (merged_asked s).least ≤ (judge_in Merged s (numbers plan)).slots
  merged-least passes = least-any s (numbers plan) (merged-deep passes)

  pub merged-bytes-decide : judge_in Merged s (take deciding_merged (numbers plan)) ≡ judge_in Merged s (numbers plan)
  merged-bytes-decide = merged-plan-decided s (numbers plan) (bytes_below plan)

  pub merged-bytes-decide-judgement : judgement_in Merged s (take deciding_merged (numbers plan)) ≡ judgement_in Merged s (numbers plan)
  merged-bytes-decide-judgement = merged-plan-judgement-decided s (numbers plan) (bytes_below plan)
