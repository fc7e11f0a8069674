-- The words of the page of promises: what the functions answer and leave behind, as their contracts say it.
use Rattle.std.specs.Prelude.{◌≡◌, true, false, List, [], ◌∷◌, ℕ, ◌≤◌, ◌<◌, length, take}
use Rattle.meaning.specs.declared.Mode.{Mode}
use Rattle.meaning.specs.declared.Mode.TheVariants.{Packets}
use Rattle.meaning.specs.declared.Planned.{Planned}
use Rattle.meaning.specs.Words.{Bytes, Node, Slots}
use Rattle.meaning.specs.Yard.{is_probe}
use Rattle.meaning.specs.Sheet.{probe_count, packets_of, hops}
use Rattle.meaning.specs.Plan.{plan_bytes, room_for, front}
use Rattle.meaning.specs.Rounds.{Way, by_probe, by_level, slots_in, slots_of}
use Rattle.meaning.specs.Answer.{accepted, is_accepted, sheet_test, plan_made_in, plan_made}
use Rattle.meaning.specs.Judge.{judge}

-- the two planners: `plan::by_probe` and `plan::by_level`
pub data Planner : Type 0 where
  probe : Planner
  level : Planner

abbrev pub way : Planner → Bytes → Way
way probe = by_probe
way level = by_level

-- the slots of the paper's plan
abbrev pub slots_by : Planner → (s : Bytes) → Slots
slots_by planner s = slots_of s (way planner s)

-- what a planner answers, and the buffer afterwards
abbrev pub answer : Planner → (s buffer : Bytes) → Planned
answer planner s buffer = (plan_made (way planner) s (length buffer)).answer

abbrev pub after : Planner → (s buffer : Bytes) → Bytes
after planner s buffer = front buffer (plan_made (way planner) s (length buffer)).written

-- the plan that it wrote: the first bytes of the buffer, as many as it answers
abbrev pub plan_of : Planner → (s buffer : Bytes) → Bytes
plan_of planner s buffer = take (answer planner s buffer).bytes (after planner s buffer)

-- it answers this and leaves the buffer so; of any way, in either mode
abbrev pub AnswersIn : Mode → (by : Bytes → Way) → (s buffer : Bytes) → Planned → Bytes → Type 0
AnswersIn mode by s buffer r left =
    ((plan_made_in mode by s (length buffer)).answer ≡ r) × (front buffer (plan_made_in mode by s (length buffer)).written ≡ left)

abbrev pub Answers : Planner → (s buffer : Bytes) → Planned → Bytes → Type 0
Answers planner s buffer r left = AnswersIn Packets (way planner) s buffer r left

-- the answer that counts the plan
abbrev pub counted_in : Mode → (by : Bytes → Way) → (s : Bytes) → Planned
counted_in mode by s =
    record {
      outcome = accepted;
      colours = (by s).colours;
      slots = length (slots_in mode s (by s));
      bytes = length (plan_bytes (slots_in mode s (by s)));
    }

abbrev pub counted : Planner → (s : Bytes) → Planned
counted planner s = counted_in Packets (way planner) s

-- a sheet passes its tests, or one of them refuses it; a buffer has room for the plan, or is too short
abbrev pub Accepted : (s : Bytes) → Type 0
Accepted s = is_accepted (sheet_test s) ≡ true

abbrev pub Refused : (s : Bytes) → Type 0
Refused s = is_accepted (sheet_test s) ≡ false

-- no probe of the sheet is a relay
abbrev pub NoRelay : (s : Bytes) → Type 0
NoRelay s = (v : Node) → is_probe (probe_count s) v ≡ true → 1 ≤ packets_of s v

abbrev pub Room : (s buffer : Bytes) → Type 0
Room s buffer = room_for (hops s) ≤ length buffer

abbrev pub Short : (s buffer : Bytes) → Type 0
Short s buffer = length buffer < room_for (hops s)

-- another sheet has the same probes with the same packets, whatever its tree and its pairs
abbrev pub SameProbes : (s other : Bytes) → Type 0
SameProbes s other = (probe_count other ≡ probe_count s) × ((v : Node) → packets_of other v ≡ packets_of s v)

-- the judge passes a plan
abbrev pub Passes : (s plan : Bytes) → Type 0
Passes s plan = is_accepted (judge s plan).outcome ≡ true

-- what a `&[u8]` is a list of, and the numbers in it
pub record Byte : Type 0 where
  pub number : ℕ
  pub below : number < 256

unfoldable pub numbers : List Byte → Bytes
numbers [] = []
numbers (byte ∷ bytes) = byte.number ∷ numbers bytes
