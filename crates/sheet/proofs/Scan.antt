-- A scan that stops at the first number given, and its laws, for every section of a sheet: as far as test k none has given a number.
use mathlib.Core.Path.{◌≡◌, refl, sym, ap, ◌∙◌}
use mathlib.Core.Bool.{true}
use Prim.Native.Nat.{ℕ, ◌+◌, ◌<◌}
use Rattle.meaning.specs.declared.Refusal.{Refusal}
use Rattle.meaning.specs.declared.Outcome.{Outcome}
use Rattle.meaning.specs.Words.{for_each}
use Rattle.meaning.specs.Answer.{accepted, is_accepted, in_order}
use Rattle.meaning.specs.Results.{outcome_of}
use Rattle.laws.proofs.Accepted.{in_order-next, in_order-stops}
use Rattle.laws.proofs.Refused.{refused}

module _ (test : ℕ → Outcome) where
  pub scan-starts : in_order 0 test ≡ accepted
  unfolding in_order for_each
  scan-starts = refl

  module _ (k : ℕ) (none : in_order k test ≡ accepted) where
    quiet : is_accepted (in_order k test) ≡ true
    quiet = ap (λ (o : Outcome). is_accepted o) none

    -- one test more gives no number
    pub scan-next : accepted ≡ test k → in_order (k + 1) test ≡ accepted
    scan-next e = in_order-next k test quiet ∙ sym e

    -- one test more gives a number: that is the whole answer
    pub scan-stops : (n : ℕ) → k < n → (refusal : Refusal) → outcome_of refusal ≡ test k → outcome_of refusal ≡ in_order n test
    scan-stops n h refusal e =
        e ∙ sym (in_order-stops k n test h quiet (ap (λ (o : Outcome). is_accepted o) (sym e) ∙ refused refusal))
