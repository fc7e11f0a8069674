-- A text that is copied whole into a buffer, or not at all where the buffer is too short.
use Rattle.std.specs.Prelude.{◌≡◌, Option, None, Some, ℕ, ◌<◌, ◌≤◌, length}
use Rattle.meaning.specs.Words.{Bytes}
use Rattle.meaning.specs.Plan.{front}

abbrev pub Copied : (text before after : Bytes) → Option ℕ → Type 0
Copied text before after None = (length before < length text) × (after ≡ before)
Copied text before after (Some n) =
    (length text ≤ length before) × ((n ≤ length after) × ((n ≡ length text) × (after ≡ front before text)))
