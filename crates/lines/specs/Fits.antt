-- A part of an answer in a buffer that has room for it.
use Rattle.std.specs.Prelude.{ℕ, ◌+◌, ◌≤◌, length}
use Rattle.meaning.specs.Words.{Bytes}
use Rattle.lines.specs.Line.{Put}

-- the bytes are put at a place if they fit there, and where they end; what stands there if they do not fit is left open
pub record Fits (before : Bytes) (at : ℕ) (bytes after : Bytes) (end : ℕ) : Type 0 where
  pub put : at + length bytes ≤ length before → Put before at bytes after end
