-- The words of the page of promises for merged readings: what `plan::merged` answers and leaves behind, and what `judge::merged_judgement` passes.
use Rattle.std.specs.Prelude.{◌≡◌, true, ◌≤◌, ◌<◌, length, take}
use Rattle.meaning.specs.declared.Mode.TheVariants.{Merged}
use Rattle.meaning.specs.declared.Planned.{Planned}
use Rattle.meaning.specs.Words.{Bytes, Slots}
use Rattle.meaning.specs.Sheet.{probe_count}
use Rattle.meaning.specs.Plan.{room_for, front}
use Rattle.meaning.specs.Rounds.{merged, slots_in}
use Rattle.meaning.specs.Answer.{is_accepted, merged_made}
use Rattle.meaning.specs.Judge.{judge_in}

-- the slots of the merged plan
abbrev pub merged_slots : (s : Bytes) → Slots
merged_slots s = slots_in Merged s (merged s)

-- what the planner answers, and the plan that it wrote: the first bytes of the buffer, as many as it answers
abbrev pub merged_answer : (s buffer : Bytes) → Planned
merged_answer s buffer = (merged_made s (length buffer)).answer

abbrev pub merged_plan : (s buffer : Bytes) → Bytes
merged_plan s buffer = take (merged_answer s buffer).bytes (front buffer (merged_made s (length buffer)).written)

-- a buffer has room for a sending of each probe, or is too short
abbrev pub MergedRoom : (s buffer : Bytes) → Type 0
MergedRoom s buffer = room_for (probe_count s) ≤ length buffer

abbrev pub MergedShort : (s buffer : Bytes) → Type 0
MergedShort s buffer = length buffer < room_for (probe_count s)

-- the judge of merged readings passes a plan
abbrev pub MergedPasses : (s plan : Bytes) → Type 0
MergedPasses s plan = is_accepted (judge_in Merged s plan).outcome ≡ true
