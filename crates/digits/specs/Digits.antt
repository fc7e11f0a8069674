-- RULES, "A graph as text" and "The answers in words": the number that a word says.
use Rattle.std.specs.Prelude.{Bool, false, not, ◌&&◌, ◌||◌, [], ◌∷◌, ℕ, ◌+◌, ◌-◌, ◌*◌, min, leb}
use Rattle.meaning.specs.Words.{Bytes}

-- 0 to 9
abbrev pub is_digit : (byte : ℕ) → Bool
is_digit byte = leb 48 byte && leb byte 57

-- whether any byte of a word is no digit
unfoldable pub others_stand : (word : Bytes) → Bool
others_stand [] = false
others_stand (byte ∷ rest) = not (is_digit byte) || others_stand rest

-- the number that digits say behind the number before them
unfoldable pub digits_say : (before : ℕ) → (digits : Bytes) → ℕ
digits_say before [] = before
digits_say before (digit ∷ rest) = digits_say (10 * before + (digit - 48)) rest

-- a number of any length, as far as two bytes go: 65,535 stands for it and for all above
abbrev pub up_to65535 : ℕ → ℕ
up_to65535 n = min n 65535

unfoldable pub number_said : (word : Bytes) → ℕ
number_said word = up_to65535 (digits_say 0 word)
