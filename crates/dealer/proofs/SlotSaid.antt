-- How long a slot is, as a word says it: what stands in the word, and then its number, which is capped far above the longest slot.
use mathlib.Core.Path.{◌≡◌}
use mathlib.Core.Bool.{true, false}
use mathlib.Core.List.{List}
use Prim.Native.Nat.{ℕ, ◌≤◌, ◌<◌}
use native.Mathlib.Omega.{arith}
use borrow.Author.Tests.{lt-ltb, le-ltb}
use Rattle.digits.specs.Digits.{others_stand, digits_say, number_said}
use Rattle.dealer.specs.SlotLength.{longest_slot, milliseconds_said}

module _ (word : List ℕ) where
  pub others-say-nothing : others_stand word ≡ true → 0 ≡ milliseconds_said word
  unfolding milliseconds_said
  others-say-nothing others = simp others

  module _ (digits : others_stand word ≡ false) where
    pub long-says-nothing : longest_slot < number_said word → 0 ≡ milliseconds_said word
    unfolding number_said milliseconds_said
    long-says-nothing long = simp (digits, lt-ltb longest_slot (digits_say 0 word) (omega arith))

    pub number-says : number_said word ≤ longest_slot → number_said word ≡ milliseconds_said word
    unfolding number_said milliseconds_said
    number-says short = simp (digits, le-ltb longest_slot (digits_say 0 word) (omega arith)) (omega arith)
