-- Rows that are computed from the definitions: the worst slots, the worst sheet and the best.
use mathlib.Core.Bool.{Bool, true, false, ◌&&◌}
use mathlib.Core.List.{List, [], ◌∷◌}
use Prim.Native.Nat.{ℕ}
use lib.Dec.{T, eqb}
use Rattle.meaning.specs.Words.{for_each, least, sum, in_turn}
use Rattle.meaning.specs.Sheet.{packets_of}
use Rattle.arrangement.specs.Arranged.{place_of, worst_slots, chain_parent, worst_sheet, best_sheet}

abbrev pub same : List ℕ → List ℕ → Bool
same [] [] = true
same [] (x ∷ xs) = false
same (x ∷ xs) [] = false
same (x ∷ xs) (y ∷ ys) = eqb x y && same xs ys

-- the sheet A of RULES, "Yards to try"
abbrev pub A : List ℕ
A = 3 ∷ 1 ∷ 1 ∷ 2 ∷ 1 ∷ 1 ∷ 1 ∷ 0 ∷ 0 ∷ []

-- three probes with 3, 1 and 2 packets
abbrev pub mixed : List ℕ
mixed = 3 ∷ 1 ∷ 3 ∷ 1 ∷ 1 ∷ 1 ∷ 2 ∷ 0 ∷ 0 ∷ []

-- two relays and a packet
abbrev pub relays : List ℕ
relays = 3 ∷ 1 ∷ 0 ∷ 2 ∷ 1 ∷ 1 ∷ 0 ∷ 0 ∷ 0 ∷ []

pub computed : T (eqb (worst_slots A) 6
    && eqb (worst_slots mixed) 14
    && eqb (worst_slots relays) 3
    && eqb (worst_slots (0 ∷ 0 ∷ 0 ∷ [])) 0
    && same (worst_sheet A) (3 ∷ 1 ∷ 1 ∷ 2 ∷ 1 ∷ 3 ∷ 1 ∷ 0 ∷ 6 ∷ 1 ∷ 2 ∷ 1 ∷ 3 ∷ 1 ∷ 4 ∷ 2 ∷ 3 ∷ 2 ∷ 4 ∷ 3 ∷ 4 ∷ [])
    && same (worst_sheet mixed) (3 ∷ 4 ∷ 3 ∷ 1 ∷ 1 ∷ 3 ∷ 2 ∷ 0 ∷ 6 ∷ 1 ∷ 2 ∷ 1 ∷ 3 ∷ 1 ∷ 4 ∷ 2 ∷ 3 ∷ 2 ∷ 4 ∷ 3 ∷ 4 ∷ [])
    && same (worst_sheet (0 ∷ 0 ∷ 0 ∷ [])) (0 ∷ 0 ∷ 0 ∷ [])
    && same (best_sheet mixed) (3 ∷ 1 ∷ 3 ∷ 1 ∷ 1 ∷ 1 ∷ 2 ∷ 0 ∷ 0 ∷ []))
unfolding for_each least sum packets_of place_of worst_slots chain_parent in_turn worst_sheet best_sheet
computed = tt
