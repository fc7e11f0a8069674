-- How the rows of proved yards and books write bytes, and when two lists are the same.
use mathlib.Core.Bool.{Bool, true, false, cond, ◌&&◌}
use mathlib.Core.List.{List, [], ◌∷◌}
use Prim.Native.Nat.{ℕ, zero, suc, ◌+◌, ◌-◌, ◌*◌}
use Prim.Native.String.{String, [] as end, ◌∷◌ as ◌and◌}
use lib.Dec.{eqb, ltb}
use Rattle.meaning.specs.Lister.{text}

-- a sheet, a plan or a buffer as RULES writes it: two digits a byte, one space between
unfoldable pub digit : ℕ → ℕ
digit c = cond (ltb c 58) (c - 48) (c - 87)

unfoldable pub pairs : List ℕ → List ℕ
pairs [] = []
pairs (a ∷ []) = []
pairs (a ∷ b ∷ []) = (16 * digit a + digit b) ∷ []
pairs (a ∷ b ∷ c ∷ rest) = (16 * digit a + digit b) ∷ pairs rest

unfoldable pub hex : String → List ℕ
hex written = pairs (text written)

-- a text, so many times, in front of another
unfoldable pub many : ℕ → String → String → String
many zero piece rest = rest
many (suc k) piece rest = before piece (many k piece rest)
  where
    before : String → String → String
    before end rest = rest
    before (letter and more) rest = letter and before more rest

-- number by number
unfoldable pub same : List ℕ → List ℕ → Bool
same [] [] = true
same [] (y ∷ ys) = false
same (x ∷ xs) [] = false
same (x ∷ xs) (y ∷ ys) = eqb x y && same xs ys
