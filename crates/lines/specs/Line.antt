-- RULES, "The lister": one line into a lent buffer.
use Rattle.std.specs.Prelude.{◌≡◌, cond, [], ℕ, ◌+◌, ◌≤◌, leb, length, take}
use Rattle.std.proofs.lemmas.List.Edits.{sets}
use Rattle.meaning.specs.Words.{Bytes}
use Rattle.meaning.specs.Plan.{front}

-- how many bytes are written: all, or none where the buffer is too short for the line
abbrev pub line_length : (buffer bytes : Bytes) → ℕ
line_length buffer bytes = cond (leb (length bytes) (length buffer)) (length bytes) 0

-- the buffer afterwards: the line at its start and the rest as before, or untouched where it is too short
abbrev pub line_in : (buffer bytes : Bytes) → Bytes
line_in buffer bytes = cond (leb (length bytes) (length buffer)) (front buffer bytes) buffer

-- what a function that writes an answer says of it: that it is a part of the buffer, how long it is, and the buffer afterwards
pub record Written (before bytes after : Bytes) (n : ℕ) : Type 0 where
  pub part : (n ≤ length after) × (n ≡ length (take n after))
  pub answer : n ≡ line_length before bytes
  pub buffer : after ≡ line_in before bytes

-- bytes that fit at a place of a buffer: all of them, or none where they do not
unfoldable pub fitting : (buffer : Bytes) → (at : ℕ) → (bytes : Bytes) → Bytes
fitting buffer at bytes = cond (leb (at + length bytes) (length buffer)) bytes []

-- bytes put at a place of a buffer, and where they end
pub record Put (before : Bytes) (at : ℕ) (bytes after : Bytes) (end : ℕ) : Type 0 where
  pub ends : end ≡ at + length bytes
  pub wrote : after ≡ sets before at bytes
