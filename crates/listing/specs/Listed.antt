-- RULES, "The lister": the whole text in a lent buffer.
use Rattle.std.specs.Prelude.{◌≡◌, cond, List, ◌++◌, ℕ, ◌+◌, ◌-◌, ◌*◌, ◌≤◌, leb, length}
use Rattle.meaning.specs.Plan.{front, slots_from}
use Rattle.meaning.specs.Lister.{any_text, slot_lines, list}

-- how many bytes are written: the whole text, or none where the buffer is too short
abbrev pub listed_length : List ℕ → List ℕ → ℕ
listed_length s buffer = cond (leb any_text (length buffer)) (length (list s)) 0

-- the buffer afterwards: the whole text at its start and the rest as before, or untouched where it is too short
abbrev pub listed_in : List ℕ → List ℕ → List ℕ
listed_in s buffer = cond (leb any_text (length buffer)) (front buffer (list s)) buffer

-- the lines of the first k slots stand at the start of a buffer that has room for all; `place` is where slot k stands in the plan, `at` where its line goes
pub record Listing (plan : List ℕ) (slots : ℕ) (before after : List ℕ) (place at k : ℕ) : Type 0 where
  pub done : List ℕ
  pub fits : length (slot_lines 0 (slots_from plan 2 slots)) ≤ length before
  pub within : k ≤ slots
  pub near : place ≤ 2 + 256 * k
  pub whole : slot_lines 0 (slots_from plan 2 slots) ≡ done ++ slot_lines k (slots_from plan place (slots - k))
  pub ends : at ≡ length done
  pub wrote : after ≡ front before done
