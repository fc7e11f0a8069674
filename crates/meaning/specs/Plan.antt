-- RULES, "The plan in bytes".
use Rattle.std.specs.Prelude.{List, [], ◌∷◌, ◌++◌, ℕ, zero, suc, ◌+◌, ◌*◌, ◌/◌, ◌%◌, length, get_or, take, drop}
use Rattle.meaning.specs.Words.{Bytes, Node, Slots}
use Rattle.meaning.specs.Sheet.{two_at}

-- "The plan in bytes": two bytes, high first
abbrev pub two_bytes : ℕ → Bytes
two_bytes k = (k / 256) ∷ (k % 256) ∷ []

-- "The plan in bytes": each slot is one byte, the number of senders, and the senders
unfoldable pub slot_bytes : Slots → Bytes
slot_bytes [] = []
slot_bytes (senders ∷ slots) = (length senders ∷ senders) ++ slot_bytes slots

-- "The plan in bytes": the number of slots, then each slot
abbrev pub plan_bytes : Slots → Bytes
plan_bytes slots = two_bytes (length slots) ++ slot_bytes slots

-- "The plan in bytes", read: the slot at a place of a plan has its count there, then its senders, and then the next slot begins
abbrev pub next_at : (plan : Bytes) → (at : ℕ) → ℕ
next_at plan at = at + 1 + get_or plan at 0

abbrev pub senders_at : (plan : Bytes) → (at : ℕ) → List Node
senders_at plan at = take (get_or plan at 0) (drop (at + 1) plan)

-- "The plan in bytes", read: so many slots from a place on
unfoldable pub slots_from : (plan : Bytes) → (at : ℕ) → (many : ℕ) → Slots
slots_from plan at zero = []
slots_from plan at (suc left) = senders_at plan at ∷ slots_from plan (next_at plan at) left

-- "The plan in bytes", read: the slots of a plan, which begin behind their number
abbrev pub slots_of_plan : (plan : Bytes) → Slots
slots_of_plan plan = slots_from plan 2 (two_at plan 0)

-- "The plan in bytes": the buffer that a planner wants, even where the plan turns out shorter
abbrev pub room_for : (sendings : ℕ) → ℕ
room_for sendings = 2 + 2 * sendings

-- "The plan in bytes": room for any plan of ours, 2 + 2 × 30,240
abbrev pub any_plan : ℕ
any_plan = 60482

-- "Numbers returned": so many bytes of a plan, from anybody, decide its verdict
abbrev pub deciding_plan : ℕ
deciding_plan = 96032

-- "Merged readings": room for any merged plan of ours, 2 + 2 × 63, and so many bytes of one, from anybody, decide its verdict
abbrev pub any_merged : ℕ
any_merged = 128

abbrev pub deciding_merged : ℕ
deciding_merged = 65855

-- "The plan in bytes": a buffer after these bytes were written at its start; the bytes behind them stay
abbrev pub front : (buffer bytes : Bytes) → Bytes
front buffer bytes = bytes ++ drop (length bytes) buffer
