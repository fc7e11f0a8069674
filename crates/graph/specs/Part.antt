-- RULES, "A graph as text": newlines cut a text into lines, spaces cut a line into words.
use Rattle.std.specs.Prelude.{cond, [], ◌∷◌, ℕ, zero, suc, eqb}
use Rattle.meaning.specs.Words.{Bytes}

abbrev pub newline : ℕ
newline = 10

abbrev pub space : ℕ
space = 32

-- how often the mark stands in bytes
unfoldable pub marks : (mark : ℕ) → Bytes → ℕ
marks mark [] = 0
marks mark (byte ∷ rest) = cond (eqb byte mark) (suc (marks mark rest)) (marks mark rest)

-- the part behind k marks, up to the next mark or to the end
unfoldable pub part : (mark k : ℕ) → Bytes → Bytes
part mark k [] = []
part mark zero (byte ∷ rest) = cond (eqb byte mark) [] (byte ∷ part mark zero rest)
part mark (suc k) (byte ∷ rest) = part mark (cond (eqb byte mark) k (suc k)) rest
