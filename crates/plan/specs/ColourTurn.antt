-- What a turn may count on and what it has done, told in the meaning's words.
use Rattle.std.specs.Prelude.{◌≡◌, List, ℕ, suc, ◌+◌, ◌*◌, ◌≤◌, ◌<◌, length}
use Rattle.meaning.specs.Words.{Slots}
use Rattle.meaning.specs.Plan.{front, slot_bytes}
use Rattle.meaning.specs.Yard.{level_by}
use Rattle.meaning.specs.Rounds.{held_after}
use Rattle.laws.proofs.Moving.{weigh}

-- what a turn may count on: a yard in which what a probe sends goes to a node one level lower, few packets or readings, and room for two bytes a sending
pub record Ready (p : ℕ) (parent : ℕ → ℕ) (held : List ℕ) (room : ℕ) : Type 0 where
  pub small : p ≤ 63
  pub long : length held ≡ 65
  pub few : weigh (λ _. 1) held ≤ 945
  pub up : (k : ℕ) → k < p → (parent (k + 2) < 65) × (level_by p parent (k + 2) ≡ suc (level_by p parent (parent (k + 2))))
  pub fits : 2 * weigh (level_by p parent) held ≤ room

-- after a turn: what its senders send has moved, and its slot, if any, stands at the start of the rest
pub record Turned (parent : ℕ → ℕ) (slots : Slots) (held held' rest rest' : List ℕ) (bytes : ℕ) : Type 0 where
  pub moves : held' ≡ held_after parent held slots
  pub counted : bytes ≡ length (slot_bytes slots)
  pub wrote : rest' ≡ front rest (slot_bytes slots)
