-- RULES, "The answers in words": how long a slot is, as a word says it, and how long so many slots take.
use Rattle.std.specs.Prelude.{cond, ◌||◌, ℕ, ◌+◌, ◌*◌, ◌/◌, min, ltb}
use Rattle.meaning.specs.Words.{Bytes}
use Rattle.digits.specs.Digits.{others_stand, digits_say}

-- a slot is at most a minute long, in milliseconds
abbrev pub longest_slot : ℕ
longest_slot = 60000

-- the milliseconds that a word says, 1 to 60,000; 0 where it says anything else
unfoldable pub milliseconds_said : (word : Bytes) → ℕ
milliseconds_said word = cond (others_stand word || ltb longest_slot (digits_say 0 word)) 0 (digits_say 0 word)

-- the seconds that so many slots take, rounded down or up; a slot of more than a minute counts as a minute
abbrev pub down : ℕ
down = 0

abbrev pub up : ℕ
up = 999

unfoldable pub seconds_of : (slots ms rounding : ℕ) → ℕ
seconds_of slots ms rounding = (slots * min ms longest_slot + rounding) / 1000
