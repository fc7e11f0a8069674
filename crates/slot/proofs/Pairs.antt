-- The first two senders that conflict: the outer search has found a sender that some later one conflicts with, the inner one the first such; or neither has.
use mathlib.Core.Path.{◌≡◌, ap, ap₂, ◌∙◌}
use mathlib.Core.Bool.{Bool, true, false, ◌&&◌}
use mathlib.Core.List.{List}
use Prim.Native.Nat.{ℕ, ◌+◌, ◌≤◌, ◌<◌}
use native.Mathlib.Omega.{arith}
use borrow.Author.Tests.{le-ltb}
use lib.ListN.{length, get_or}
use Rattle.meaning.specs.Words.{some, least}
use Rattle.meaning.specs.Judge.{conflict_behind, some_conflict}
use Rattle.laws.proofs.Turns.{some-found, none-some}
use Rattle.laws.proofs.First.{least_first, some_first}
use Rattle.slot.specs.declared.Two.{Two}
use Rattle.slot.specs.SlotSenders.{first_two}
use Rattle.slot.proofs.Looking.{Looking, looking-stops, looking-last, none-least, least-some, least-none}

module _ (relation : ℕ → ℕ → Bool) (slot : List ℕ) where
  abbrev behind : ℕ → ℕ → Bool
  behind = conflict_behind relation slot

  abbrev any : ℕ → Bool
  any i = some (length slot) (behind i)

  -- the two are found
  pub two-stop : (i j : ℕ) → Looking any (length slot) i → Looking (behind i) (length slot) j → i < length slot → j < length slot → behind i j ≡ true
      → record { first = i; second = j } ≡ first_two relation slot
  unfolding first_two
  two-stop i j outer inner hi hj e =
      let here : i ≡ least (length slot) any = looking-stops outer hi (some-found (length slot) (behind i) j hj e) in
      let there : j ≡ least (length slot) (behind i) = looking-stops inner hj e in
      ap₂ (λ (a b : ℕ). record { first = a; second = b }) here (there ∙ ap (λ (k : ℕ). least (length slot) (behind k)) here)

  -- there are none, not even behind the last
  pub two_none : (i : ℕ) → Looking any (length slot) i → length slot ≤ i + 1 → record { first = length slot; second = length slot } ≡ first_two relation slot
  unfolding first_two
  two_none i outer h =
      let n = length slot in
      let here : n ≡ least n any = none-least any n (looking-last (λ k j. relation (get_or slot k 0) (get_or slot j 0)) n i outer h) in
      let past : some n (behind n) ≡ false =
      none-some n (behind n) (λ j hj. ap (λ (b : Bool). b && relation (get_or slot n 0) (get_or slot j 0)) (le-ltb n j (omega arith)))
      in
      ap₂ (λ (a b : ℕ). record { first = a; second = b }) here (none-least (behind n) n past ∙ ap (λ (k : ℕ). least n (behind k)) here)

  module _ (two : Two) (is : two ≡ first_two relation slot) where
    first-is : two.first ≡ least (length slot) any
    unfolding first_two
    first-is = ap (λ (t : Two). t.first) is

    second_is : two.second ≡ least (length slot) (behind (least (length slot) any))
    unfolding first_two
    second_is = ap (λ (t : Two). t.second) is

    pub two-conflict : two.first < length slot → some_conflict relation slot ≡ true
    two-conflict h = least-some any (length slot) two.first first-is h

    pub none-conflict : length slot ≤ two.first → some_conflict relation slot ≡ false
    none-conflict h = least-none any (length slot) two.first first-is h

    -- where the first is a sender, so is the second
    pub second-within : two.first < length slot → two.second < length slot
    second-within h =
        let i = least (length slot) any in
        let found : some (length slot) (behind i) ≡ true = (least_first (length slot) any).passes (omega (arith, first-is)) in
        omega (arith, second_is, some_first (behind i) (length slot) (least (length slot) (behind i)) (least_first (length slot) (behind i)) found)
