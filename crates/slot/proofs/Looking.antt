-- A search that stops at the first that passes a test: one invariant and its laws, for every search of a slot.
use mathlib.Core.Path.{◌≡◌, refl, sym, ap, ap₂, ◌∙◌}
use mathlib.Core.Bool.{Bool, true, false, ◌||◌, ◌&&◌}
use mathlib.Core.Logic.{⊎_elim}
use Prim.Native.Nat.{ℕ, ◌+◌, ◌≤◌, ◌<◌}
use native.Mathlib.Nat.{le_refl}
use native.Mathlib.Omega.{arith}
use borrow.Author.Tests.{le-ltb}
use lib.Dec.{ltb}
use Rattle.meaning.specs.Words.{some, least}
use Rattle.laws.proofs.Turns.{below-or-last, some_one, some-found, some-none, none-some}
use Rattle.laws.proofs.First.{First, least_first, first-only, first_some, first-none}

-- as far as number k of n: none of those before passes
pub record Looking (test : ℕ → Bool) (n k : ℕ) : Type 0 where
  pub within : k ≤ n
  pub none : some k test ≡ false

pub looking-starts : {test : ℕ → Bool} {n : ℕ} → Looking test n 0
unfolding some
looking-starts = record { within = omega arith; none = refl }

-- one more does not pass
pub looking-on : {test : ℕ → Bool} {n k : ℕ} → Looking test n k → k < n → test k ≡ false → Looking test n (k + 1)
looking-on {test} {n} {k} l h e = record { within = omega arith; none = some_one k test ∙ ap₂ ◌||◌ l.none e }

-- one passes: that is the whole answer
pub looking-found : (test : ℕ → Bool) (n k : ℕ) → k < n → test k ≡ true → true ≡ some n test
looking-found test n k h e = sym (some-found n test k h e)

-- none is left: the first is behind the last
past : {test : ℕ → Bool} {n k : ℕ} → Looking test n k → n ≤ k → First test n k
past {test} {n} {k} l h = record { within = l.within; none = l.none; passes = λ more. absurd (omega arith) }

pub looking-ends : {test : ℕ → Bool} {n k : ℕ} → Looking test n k → n ≤ k → some n test ≡ false
looking-ends {test} {n} {k} l h = first-none test n k (past l h) h

-- the search ends at the first that passes, or behind the last
pub looking-stops : {test : ℕ → Bool} {n k : ℕ} → Looking test n k → k < n → test k ≡ true → k ≡ least n test
looking-stops {test} {n} {k} l h e = first-only test n k (least n test) (record { within = l.within; none = l.none; passes = λ _. e }) (least_first n test)

pub looking-past : {test : ℕ → Bool} {n k : ℕ} → Looking test n k → n ≤ k → k ≡ least n test
looking-past {test} {n} {k} l h = first-only test n k (least n test) (past l h) (least_first n test)

pub none-least : (test : ℕ → Bool) (n : ℕ) → some n test ≡ false → n ≡ least n test
none-least test n none = looking-past (record { within = le_refl n; none = none }) (le_refl n)

-- what is found below n passes, and what is not is n
pub least-some : (test : ℕ → Bool) (n k : ℕ) → k ≡ least n test → k < n → some n test ≡ true
least-some test n k is h = first_some test n (least n test) (least_first n test) (omega arith)

pub least-none : (test : ℕ → Bool) (n k : ℕ) → k ≡ least n test → n ≤ k → some n test ≡ false
least-none test n k is h = first-none test n (least n test) (least_first n test) (omega arith)

-- among the pairs whose second is above i, none is looked for up to i
pub looking-above : (test : ℕ → Bool) (n i : ℕ) → i < n → Looking (λ j. ltb i j && test j) n (i + 1)
looking-above test n i h =
    record { within = omega arith; none = none-some (i + 1) (λ j. ltb i j && test j) (λ j hj. ap (λ (b : Bool). b && test j) (le-ltb i j (omega arith))) }

-- among pairs, the last has none above it: what is left at i + 1 is nothing
pub looking-last : (test : ℕ → ℕ → Bool) (n i : ℕ) → Looking (λ k. some n (λ j. ltb k j && test k j)) n i → n ≤ i + 1
    → some n (λ k. some n (λ j. ltb k j && test k j)) ≡ false
looking-last test n i l h =
    none-some n (λ k. some n (λ j. ltb k j && test k j))
    (λ k hk.
    ⊎_elim (λ (below : k < i). some-none i (λ k. some n (λ j. ltb k j && test k j)) l.none k below)
    (λ (last : k ≡ i). none-some n (λ j. ltb k j && test k j) (λ j hj. ap (λ (b : Bool). b && test k j) (le-ltb k j (omega arith))))
    (below-or-last k i (omega arith)))
