-- Where a slot stands in a plan.
use Rattle.std.specs.Prelude.{ℕ, ◌+◌, min, length, get_or}
use Rattle.meaning.specs.Words.{Bytes}
use Rattle.meaning.specs.Plan.{next_at}
use Rattle.slot.specs.declared.SlotAt.{SlotAt}

-- "The plan in bytes": where the senders of the slot at a place begin, how many they are, and where the next slot begins; a place past the
-- end counts as the end
unfoldable pub slot_at : (plan : Bytes) → (at : ℕ) → SlotAt
slot_at plan at =
    let from = min at (length plan) in
    record { first = from + 1; many = get_or plan from 0; next = next_at plan from }
