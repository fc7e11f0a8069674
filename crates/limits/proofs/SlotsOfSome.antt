-- In how many slots a probe of some set sends: where any two of the set conflict, at most one of them sends in a slot, so that these slots are as many as
-- their sendings together. Slot by slot.
use mathlib.Core.Path.{◌≡◌, refl, ap, ◌∙◌}
use mathlib.Core.Bool.{Bool, true, false, cond}
use mathlib.Core.List.{List, [], ◌∷◌, ◌++◌, append_assoc}
use mathlib.Core.Logic.{⊎_elim}
use Prim.Native.Nat.{ℕ, zero, suc, ◌+◌, ◌≤◌, ◌<◌}
use native.Mathlib.Nat.{not-suc-le-zero, le_of_suc-le-suc}
use native.Mathlib.Omega.{arith}
use lib.ListN.{length, get_or, length-append}
use Rattle.meaning.specs.Words.{sum, count}
use Rattle.meaning.specs.Sheet.{probe_count, parent_of}
use Rattle.meaning.specs.Rounds.{moved}
use Rattle.meaning.specs.Answer.{is_accepted, sheet_test}
use Rattle.meaning.specs.Book.{some_sender, slots_where}
use Rattle.meaning.specs.Legal.{RunsIn, Runs}
use Rattle.laws.proofs.Turns.{some-where, some-none}
use Rattle.laws.proofs.Moving.{weigh_all}
use Rattle.laws.proofs.Slots.{true-or-false}
use Rattle.limits.specs.Sent.{sent_in, sent}
use Rattle.limits.proofs.Sums.{together, together-add, together-none}
use Rattle.limits.proofs.Sending.{passing-sent}
use Rattle.limits.proofs.RunningSlots.{legal-listed}
use Rattle.limits.proofs.Exclusive.{Exclusive, one_passes}

length-one : (b : Bool) (at : ℕ) → length (cond b (at ∷ []) []) ≡ cond b 1 0
length-one true at = refl
length-one false at = refl

first-apart : (n : ℕ) (f : ℕ → ℕ) → sum (suc n) f ≡ f 0 + sum n (λ k. f (suc k))
unfolding sum
first-apart zero f = omega arith
first-apart (suc n) f = omega (arith, first-apart n f)

module _ (passes : List ℕ → Bool) where
  length-next : (at : ℕ) (slot : List ℕ) (slots : List (List ℕ))
      → length (slots_where passes at (slot ∷ slots)) ≡ cond (passes slot) 1 0 + length (slots_where passes (at + 1) slots)
  unfolding slots_where
  length-next at slot slots =
      length-append (cond (passes slot) (at ∷ []) []) (slots_where passes (at + 1) slots)
      ∙ ap (λ (n : ℕ). n + length (slots_where passes (at + 1) slots)) (length-one (passes slot) at)

  -- slots one behind another
  pub where-append : (at : ℕ) (xs ys : List (List ℕ)) → slots_where passes at (xs ++ ys) ≡ slots_where passes at xs ++ slots_where passes (at + length xs) ys
  unfolding slots_where
  where-append at [] ys = ap (λ (n : ℕ). slots_where passes n ys) (omega arith)
  where-append at (x ∷ xs) ys =
      let later : at + 1 + length xs ≡ at + suc (length xs) = omega arith in
      rw (where-append (at + 1) xs ys, later, append_assoc)

  -- counted by place
  pub where-count : (at : ℕ) (slots : List (List ℕ)) → length (slots_where passes at slots) ≡ count (length slots) (λ k. passes (get_or slots k []))
  unfolding slots_where sum
  where-count at [] = refl
  where-count at (slot ∷ slots) =
      omega (
        arith,
        length-next at slot slots,
        where-count (at + 1) slots,
        first-apart (length slots) (λ k. cond (passes (get_or (slot ∷ slots) k [])) 1 0),
      )

in-weight : (w : ℕ → ℕ) (slot : List ℕ) (i : ℕ) → i < length slot → w (get_or slot i 0) ≤ weigh_all w slot
unfolding weigh_all
in-weight w [] i h = absurd (not-suc-le-zero h)
in-weight w (u ∷ slot) zero h = omega arith
in-weight w (u ∷ slot) (suc i) h = omega (arith, in-weight w slot i (le_of_suc-le-suc h))

no-weight : (w : ℕ → ℕ) (slot : List ℕ) → ((i : ℕ) → i < length slot → w (get_or slot i 0) ≡ 0) → weigh_all w slot ≡ 0
unfolding weigh_all
no-weight w [] none = refl
no-weight w (u ∷ slot) none = omega (arith, none 0 (omega arith), no-weight w slot (λ i h. none (suc i) (omega arith)))

-- where at most one sender passes, how many do tells whether some does
one-or-none : (test : ℕ → Bool) (slot : List ℕ) → weigh_all (λ u. cond (test u) 1 0) slot ≤ 1
    → cond (some_sender test slot) 1 0 ≡ weigh_all (λ u. cond (test u) 1 0) slot
one-or-none test slot few =
    ⊎_elim
    (λ (e : some_sender test slot ≡ true).
    let found = some-where (length slot) (λ i. test (get_or slot i 0)) e in
    let one : ◌≡◌ {A = ℕ} (cond (test (get_or slot found.0 0)) 1 0) 1 = ap (λ (b : Bool). cond b 1 0) found.2 in
    let yes : ◌≡◌ {A = ℕ} (cond (some_sender test slot) 1 0) 1 = ap (λ (b : Bool). cond b 1 0) e in
    omega (arith, one, yes, in-weight (λ u. cond (test u) 1 0) slot found.0 found.1))
    (λ (e : some_sender test slot ≡ false).
    let no : ◌≡◌ {A = ℕ} (cond (some_sender test slot) 1 0) 0 = ap (λ (b : Bool). cond b 1 0) e in
    omega (
      arith,
      no,
      no-weight (λ u. cond (test u) 1 0) slot
          (λ i h. ap (λ (b : Bool). cond b 1 0) (some-none (length slot) (λ i. test (get_or slot i 0)) e i h)),
    ))
    (true-or-false (some_sender test slot))

module _ (s : List ℕ) (ok : is_accepted (sheet_test s) ≡ true) (test : ℕ → Bool) (exclusive : Exclusive s test) where
  pub slots-of-some : (held : List ℕ) (at : ℕ) (slots : List (List ℕ)) → Runs s held slots
      → length (slots_where (some_sender test) at slots) ≡ together (probe_count s) test (sent slots)
  unfolding RunsIn sent slots_where
  slots-of-some held at [] runs = omega (arith, together-none (probe_count s) test)
  slots-of-some held at (slot ∷ slots) runs =
      let pass = legal-listed s ok held slot runs.0 in
      omega (
        arith,
        length-next (some_sender test) at slot slots,
        one-or-none test slot (one_passes s ok test exclusive 1 slot pass.rising pass.probes pass.apart),
        passing-sent (probe_count s) test slot pass.probes,
        together-add (probe_count s) test (sent_in slot) (sent slots),
        slots-of-some (moved (parent_of s) slot held) (at + 1) slots runs.1,
      )

  -- the same, counted by place
  pub count-of-some : (held : List ℕ) (slots : List (List ℕ)) → Runs s held slots
      → count (length slots) (λ k. some_sender test (get_or slots k [])) ≡ together (probe_count s) test (sent slots)
  count-of-some held slots runs = omega (arith, where-count (some_sender test) 1 slots, slots-of-some held 1 slots runs)
