-- Lists of different lengths are not the same: by recursion over both.
use mathlib.Core.Path.{◌≡◌, refl, sym, ap}
use mathlib.Core.Bool.{Bool, false, ◌&&◌, and-false}
use mathlib.Core.List.{List, [], ◌∷◌}
use Prim.Native.Nat.{ℕ, suc}
use lib.Dec.{eqb}
use lib.ListN.{length}
use Rattle.graph.specs.Lines.{same}

pub lengths_differ : (xs ys : List ℕ) → (length xs ≡ length ys → ⊥) → false ≡ same xs ys
unfolding same
lengths_differ [] [] other = absurd (other refl)
lengths_differ [] (y ∷ ys) other = refl
lengths_differ (x ∷ xs) [] other = refl
lengths_differ (x ∷ xs) (y ∷ ys) other = rw (← lengths_differ xs ys (λ e. other (ap suc e))) (sym (and-false (eqb x y)))
