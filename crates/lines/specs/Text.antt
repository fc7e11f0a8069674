-- A text with room for so many bytes.
use Rattle.std.specs.Prelude.{◌≡◌, ℕ, ◌++◌, take}
use Rattle.meaning.specs.Words.{Bytes}

-- bytes said behind a text, as many as there is room for
pub record Says (room : ℕ) (before bytes after : Bytes) : Type 0 where
  pub behind : after ≡ take room (before ++ bytes)
