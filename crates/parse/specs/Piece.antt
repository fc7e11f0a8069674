-- A piece of a text: its lines that are ended, read behind what was read before, and where the last begins, which is not.
use Rattle.std.specs.Prelude.{ℕ, ◌-◌, length}
use Rattle.meaning.specs.Words.{Bytes, for_each}
use Rattle.graph.specs.Part.{newline, marks, part}
use Rattle.graph.specs.Reading.{SoFar, line_read}

-- what stands behind the last newline
abbrev pub behind_last : (piece : Bytes) → Bytes
behind_last piece = part newline (marks newline piece) piece

-- where it begins
abbrev pub last_begins : (piece : Bytes) → ℕ
last_begins piece = length piece - length (behind_last piece)

-- the lines that are ended, in turn
unfoldable pub lines_after : SoFar → (piece : Bytes) → SoFar
lines_after start piece = for_each (marks newline piece) (λ k now. line_read now (part newline k piece)) start
