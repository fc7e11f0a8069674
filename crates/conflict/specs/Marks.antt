-- Tables filled by marks: what one mark does, and the marks that one probe's conflicts leave in the table of the levels.
use Rattle.std.specs.Prelude.{Bool, true, cond, not, ◌&&◌, List, [], ℕ, ◌+◌, eqb, ltb, get_or, set}
use Rattle.meaning.specs.Words.{for_each, tab, places}

-- a table of n rows
abbrev pub rows_of : ℕ → (ℕ → ℕ → Bool) → List (List Bool)
rows_of n relation = tab n (λ x. tab places (relation x))

-- a and b are related in a table of n rows; a number that has no place changes nothing
unfoldable pub marked : ℕ → List (List Bool) → ℕ → ℕ → List (List Bool)
marked n t a b = cond (ltb a n && ltb b places) (set t a (set (get_or t a []) b true)) t

-- level a is related with each other level that has a probe of the row
unfoldable pub levels_marked : ℕ → (ℕ → ℕ) → (ℕ → Bool) → ℕ → List (List Bool) → List (List Bool)
levels_marked p level row a t =
    for_each p (λ k now. cond (row (k + 2) && not (eqb a (level (k + 2)))) (marked places now a (level (k + 2))) now) t
