-- A file's name: whether it stands for standard input or output, and how it is shown.
use Rattle.std.specs.Prelude.{Bool, cond, ◌&&◌, ◌||◌, ℕ, eqb, ltb, length, get_or}
use Rattle.meaning.specs.Words.{Bytes, tab}

-- the one byte `-`
abbrev pub is_dash : Bytes → Bool
is_dash path = eqb (length path) 1 && eqb (get_or path 0 0) 45

-- a byte as it is shown: one that would end the line, or ring a bell, is a question mark
abbrev pub plain_byte : ℕ → ℕ
plain_byte byte = cond (ltb byte 32 || eqb byte 127) 63 byte

-- bytes as they are shown
unfoldable pub flattened : Bytes → Bytes
flattened bytes = tab (length bytes) (λ k. plain_byte (get_or bytes k 0))
