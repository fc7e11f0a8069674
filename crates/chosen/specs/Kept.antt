-- What the code keeps between its steps to a slot, told in the meaning's words.
use Rattle.std.specs.Prelude.{◌≡◌, Bool, true, false, List, ◌∷◌, ℕ, ◌+◌, ◌≤◌, ◌<◌, length, get_or, replicate}
use Rattle.meaning.specs.Words.{tab, places, some_probe, by_node}
use Rattle.meaning.specs.Plan.{front}
use Rattle.meaning.specs.Conflict.{entry}
use Rattle.meaning.specs.Rounds.{holds, clashes, joins, joined, senders, owners_by_level}

-- the flag of v is up
abbrev pub flag : List Bool → ℕ → Bool
flag flags v = get_or flags v false

-- those that one chosen so far conflicts with, by node
abbrev pub blocked_by : (ℕ → ℕ → Bool) → List Bool → List Bool
blocked_by relation chosen = tab places (clashes relation chosen)

-- after the turn of probe v to be chosen: who is chosen, and whom they block
pub record Considered (relation : ℕ → ℕ → Bool) (may : ℕ → Bool) (v : ℕ) (before chosen blocked : List Bool) : Type 0 where
  pub chose : chosen ≡ joins relation may v before
  pub knows : blocked ≡ blocked_by relation chosen

-- after the turns of the first k probes
pub record Joining (relation : ℕ → ℕ → Bool) (may : ℕ → Bool) (before : List Bool) (k : ℕ) (chosen blocked : List Bool) : Type 0 where
  pub chose : chosen ≡ joined k relation may before
  pub knows : blocked ≡ blocked_by relation chosen

-- nobody is chosen
abbrev pub nobody : List Bool
nobody = replicate 65 false

-- the owners of the slot of colour s
abbrev pub owners_by : ℕ → List (List Bool) → List ℕ → ℕ → List ℕ → List Bool
owners_by p table own s held = owners_by_level p (entry table) (by_node own) s (holds held)

-- after choosing the owners of the slot of colour s: whether there is any, and if so who they are and whom they block
pub record Chosen (p : ℕ) (table : List (List Bool)) (own : List ℕ) (s : ℕ) (held : List ℕ) (chosen blocked : List Bool) (any : Bool) : Type 0 where
  pub owned : any ≡ some_probe p (flag (owners_by p table own s held))
  pub chose : any ≡ true → chosen ≡ owners_by p table own s held
  pub knows : any ≡ true → blocked ≡ blocked_by (entry table) chosen

-- r is the first place from k on whose probe's flag is up, or p where none below p is
pub record NextFree (free : List Bool) (k p r : ℕ) : Type 0 where
  pub onward : k ≤ r
  pub within : r ≤ p
  pub passed : (j : ℕ) → j < r → k ≤ j → flag free (j + 2) ≡ false
  pub found : r < p → flag free (r + 2) ≡ true

-- the owners of a slot and those that join them, in rising number
abbrev pub senders_by : ℕ → List (List Bool) → List ℕ → List Bool → List ℕ
senders_by p table held owners = senders p (joined p (entry table) (holds held) owners)

-- a slot written at the start of the rest of the buffer: its count, its senders, and behind them what was there
pub record Written (slot rest after : List ℕ) (bytes : ℕ) : Type 0 where
  pub counted : bytes ≡ length slot + 1
  pub wrote : after ≡ front rest (length slot ∷ slot)
