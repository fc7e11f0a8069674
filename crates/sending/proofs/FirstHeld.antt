-- What the code holds at first is what the definitions hold, of a sheet's packets by node: the same list in either mode.
use mathlib.Core.Path.{◌≡◌, refl, ap, ap₂, ◌∙◌}
use mathlib.Core.List.{List}
use Prim.Native.Nat.{ℕ, ◌≤◌}
use Rattle.meaning.specs.declared.Mode.{Mode}
use Rattle.meaning.specs.declared.Mode.TheVariants.{Packets, Merged}
use Rattle.meaning.specs.Words.{tab, places}
use Rattle.meaning.specs.Sheet.{probe_count, packets_of}
use Rattle.meaning.specs.Legal.{held_in}
use Rattle.laws.specs.Few.{at_most63}
use Rattle.laws.proofs.Few.{as_many}
use Rattle.sending.specs.First.{first_held}

meant : (mode : Mode) (s : List ℕ) → first_held mode (probe_count s) (tab places (packets_of s)) ≡ held_in mode s
meant Packets s = refl
meant Merged s = refl

pub first_read : (mode : Mode) (s : List ℕ) → probe_count s ≤ 63 → (p : ℕ) (packets first : List ℕ) → p ≡ probe_count s
    → packets ≡ tab places (packets_of s) → first ≡ first_held mode (at_most63 p) packets → first ≡ held_in mode s
first_read mode s few p packets first probes read is =
    is
    ∙ ap₂ (λ (n : ℕ) (l : List ℕ). first_held mode (at_most63 n) l) probes read
    ∙ ap (λ (n : ℕ). first_held mode n (tab places (packets_of s))) (as_many (probe_count s) few)
    ∙ meant mode s
