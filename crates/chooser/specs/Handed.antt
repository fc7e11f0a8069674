-- What the chooser hands back, as a reference: where it points, and the bytes behind it.
use Rattle.std.specs.Prelude.{◌≡◌, List, ℕ, take}
use Rattle.std.specs.Borrow.{Bor}
use Rattle.meaning.specs.declared.Choice.{Choice}
use Rattle.meaning.specs.declared.Choice.TheVariants.{Neither, First, Second}

-- "Numbers returned": one of the two lent plans itself, whole; or the empty part at the start of the first
abbrev pub Handed : Choice → Bor (List ℕ) → Bor (List ℕ) → Bor (List ℕ) → Type 0
Handed First first second r = r ≡ first
Handed Second first second r = r ≡ second
Handed Neither first second r = (r.ref_ptr ≡ first.ref_ptr) × (r.now ≡ take 0 first.now)
