-- What has no place in a table reads as false: a table that is passed by value has 65 rows, and each has 65 flags.
use mathlib.Core.Path.{◌≡◌, sym, ap}
use mathlib.Core.Bool.{Bool, false}
use mathlib.Core.List.{List, [], ◌∷◌}
use mathlib.Core.Logic.{◌⊎◌, inl, inr}
use Prim.Native.Nat.{ℕ, zero, suc, ◌≤◌, ◌<◌}
use native.Mathlib.Decide.{dec_lt}
use native.Mathlib.Omega.{arith}
use mir.Val.{Val}
use denote.Array.{Array, each}
use denote.Laws.{Is}
use denote.Plain.{Boolean}
use denote.Shadow.{shadow}
use lib.ListN.{length, get_or, get_or-eq_default}
use Rattle.meaning.specs.Words.{places}
use Rattle.meaning.specs.Conflict.{entry}

rows_long : (t : List (List Bool)) (values : List Val) (x : ℕ) → shadow (each (List Bool) (Array Boolean places).own_val t values) → x < length t
    → length (get_or t x []) ≡ places
rows_long [] values x rows h = absurd (omega arith)
rows_long (row ∷ t) [] x rows h = absurd rows
rows_long (row ∷ t) (value ∷ values) zero rows h = rows.0.1.0.1
rows_long (row ∷ t) (value ∷ values) (suc x) rows h = rows_long t values x rows.1 (omega arith)

module _ (t : List (List Bool)) (values : List Val) (is : Is (Array (Array Boolean places) places) t values) (x y : ℕ) where
  no_row : places ≤ x → false ≡ entry t x y
  no_row h = let long : length t ≡ places = is.1.0.1 in sym (ap (λ (row : List Bool). get_or row y false) (get_or-eq_default t [] (omega arith)))

  pub no_place : (places ≤ x) ⊎ (places ≤ y) → false ≡ entry t x y
  no_place (inl h) = no_row h
  no_place (inr h) = go (dec_lt x places)
    where
      go : Dec (x < places) → false ≡ entry t x y
      go (yes l) =
          let long : length t ≡ places = is.1.0.1 in
          let wide : length (get_or t x []) ≡ places = rows_long t is.0 x is.1.1 (omega arith) in
          sym (get_or-eq_default (get_or t x []) false (omega arith))
      go (no l) = no_row (omega arith)
