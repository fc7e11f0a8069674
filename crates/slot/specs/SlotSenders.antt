-- What the code asks of a slot's senders besides the meaning's tests.
use Rattle.std.specs.Prelude.{cond, List, ℕ, ◌<◌, length, get_or}
use Rattle.meaning.specs.Returned.{Tested}
use Rattle.meaning.specs.Words.{Node, Relation, places}
use Rattle.meaning.specs.Yard.{is_probe}
use Rattle.meaning.specs.Rounds.{holds}
use Rattle.meaning.specs.Answer.{accepted}
use Rattle.meaning.specs.Judge.{nobody, lower_at, higher_at}
use Rattle.slot.specs.declared.Two.{Two}

-- each sender is a node
abbrev pub Nodes : (slot : List Node) → Type 0
Nodes slot = (i : ℕ) → i < length slot → get_or slot i 0 < places

-- the places of the two that 15 names; their number, twice, where no two conflict
unfoldable pub first_two : Relation → (slot : List Node) → Two
first_two relation slot = record { first = lower_at relation slot; second = higher_at relation slot }

-- a number at its place, and whom it names
abbrev pub blaming : (number place first second : ℕ) → Tested
blaming number place first second = record { outcome = record { number = number; place = place }; names = record { first = first; second = second } }

-- the test of a slot with one sender: of the four only 12 and 14 can find something (proofs/Tests.antt)
unfoldable pub lone_tested : (p : ℕ) → (held : List ℕ) → (place : ℕ) → (sender : Node) → Tested
lone_tested p held place sender =
    cond (is_probe p sender)
    (cond (holds held sender) (record { outcome = accepted; names = nobody }) (blaming 14 place sender 0))
    (blaming 12 place sender 0)
