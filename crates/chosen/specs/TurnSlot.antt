-- The slot of a colour, and what of it is written into the rest of a buffer.
use Rattle.std.specs.Prelude.{Bool, cond, List, [], ℕ, ltb, length}
use Rattle.meaning.specs.Words.{Bytes, Node, Slots, Relation, by_node}
use Rattle.meaning.specs.Plan.{slot_bytes, front}
use Rattle.meaning.specs.Conflict.{entry}
use Rattle.meaning.specs.Rounds.{holds, turn_of, owners_by_level}

-- what the turn of colour s makes for those that hold a packet now: one slot, or none
unfoldable pub turn_slots : (p : ℕ) → Relation → (own : Node → ℕ) → (s : ℕ) → (held : List ℕ) → Slots
turn_slots p relation own s held = turn_of p relation (holds held) (owners_by_level p relation own s (holds held))

-- the same by lists: the table of conflicts, and each probe's colour or that of its level
abbrev pub turn_by : (p : ℕ) → (table : List (List Bool)) → (own : List ℕ) → (s : ℕ) → (held : List ℕ) → Slots
turn_by p table own s held = turn_slots p (entry table) (by_node own) s held

-- bytes as a whole, or none of them where the rest is too short
abbrev pub whole : (rest bytes : Bytes) → Bytes
whole rest bytes = cond (ltb (length rest) (length bytes)) [] bytes

-- how many bytes a turn writes into the rest: its slot's count and senders, or none where there is no slot or it does not fit
abbrev pub turn_length : (rest : Bytes) → Slots → ℕ
turn_length rest slots = length (whole rest (slot_bytes slots))

-- the rest afterwards: those bytes at its start, and behind them what was there
abbrev pub turn_in : (rest : Bytes) → Slots → Bytes
turn_in rest slots = front rest (whole rest (slot_bytes slots))
