-- Whom the number of a slot's test names: the first sender that a test finds is the first that offends, and since senders rise by then the first two that
-- conflict are the lowest.
use mathlib.Core.Path.{◌≡◌, refl, sym, ap, ap₂, subst}
use mathlib.Core.Bool.{Bool, true, false, not, ◌&&◌}
use mathlib.Core.List.{List}
use mathlib.Core.Logic.{◌⊎◌, inl, inr, ⊎_elim}
use Prim.Native.Nat.{ℕ, ◌+◌, ◌-◌, ◌≤◌, ◌<◌}
use native.Mathlib.Decide.{dec_lt}
use native.Mathlib.Omega.{arith}
use lib.Dec.{eqb, ltb}
use lib.ListN.{length, get_or}
use borrow.Author.Tests.{ltb-true, ltb-false, leb-true, leb-false, eqb-true, not-true, lt-ltb, le-ltb, le-leb, ne_eqb}
use Rattle.meaning.specs.declared.Outcome.{Outcome}
use Rattle.meaning.specs.Words.{Node, Relation, some, least}
use Rattle.meaning.specs.Yard.{is_probe}
use Rattle.meaning.specs.Judge.{no_probe, not_rising, no_packet, conflict_behind, some_no_probe, some_not_rising, some_no_packet, some_conflict, slot_test, nobody, one_name, two_names, slot_names, slot_tested}
use Rattle.meaning.specs.Answer.{accepted, is_accepted, given, ◌then◌}
use Rattle.meaning.specs.Blame.{FirstOffender, LowestTwo, Blames}
use Rattle.laws.proofs.Turns.{below-or-last, some-found, some-none}
use Rattle.laws.proofs.Walk.{not-both}
use Rattle.laws.proofs.Slots.{and_left, and_right}
use Rattle.laws.proofs.First.{least_first, some_first, first-least}
use Rattle.laws.proofs.Exact.{rises}

-- the numbers that name someone
abbrev pub Naming : ℕ → Type 0
Naming number = (12 ≤ number) × (number ≤ 15)

else-named : (number : ℕ) → (number < 12) ⊎ (15 < number) → Naming number → ⊥
else-named number out named = ⊎_elim (λ (l : number < 12). omega (arith, named.0)) (λ (l : 15 < number). omega (arith, named.1)) out

pub accepted-named : (outcome : Outcome) → is_accepted outcome ≡ true → Naming outcome.number → ⊥
accepted-named outcome e named = omega (arith, eqb-true outcome.number 0 e, named.0)

pub given-named : (number place : ℕ) (test : Bool) → (number < 12) ⊎ (15 < number) → Naming (given number place test).number → ⊥
given-named number place true out named = else-named number out named
given-named number place false out named = accepted-named accepted refl named

-- which tests of a slot found something where it gives a number, and that it gives it at its place
pub record Found (place : ℕ) (probe rising packet conflict : Bool) (outcome : Outcome) : Type 0 where
  pub is_12 : outcome.number ≡ 12 → probe ≡ true
  pub is_13 : outcome.number ≡ 13 → rising ≡ true
  pub is_14 : outcome.number ≡ 14 → packet ≡ true
  pub is_15 : outcome.number ≡ 15 → (rising ≡ false) × (conflict ≡ true)
  pub its_place : 0 < outcome.number → outcome.place ≡ place

tests-found : (place : ℕ) (a b c d : Bool)
    → Found place a b c d (given 12 place a then given 13 place b then given 14 place c then given 15 place d)
unfolding ◌then◌
tests-found place true b c d =
    record { is_12 = λ _. refl; is_13 = λ e. absurd (omega arith); is_14 = λ e. absurd (omega arith); is_15 = λ e. absurd (omega arith); its_place = λ _. refl }
tests-found place false true c d =
    record { is_12 = λ e. absurd (omega arith); is_13 = λ _. refl; is_14 = λ e. absurd (omega arith); is_15 = λ e. absurd (omega arith); its_place = λ _. refl }
tests-found place false false true d =
    record { is_12 = λ e. absurd (omega arith); is_13 = λ e. absurd (omega arith); is_14 = λ _. refl; is_15 = λ e. absurd (omega arith); its_place = λ _. refl }
tests-found place false false false true =
    record { is_12 = λ e. absurd (omega arith); is_13 = λ e. absurd (omega arith); is_14 = λ e. absurd (omega arith); is_15 = λ _. (refl, refl); its_place = λ _. refl }
tests-found place false false false false =
    record { is_12 = λ e. absurd (omega arith); is_13 = λ e. absurd (omega arith); is_14 = λ e. absurd (omega arith); is_15 = λ e. absurd (omega arith); its_place = λ h. absurd (omega arith) }

-- the first that a test finds is the first offender, where the test at i is of the sender at `move i`
first_found : (move : ℕ → ℕ) (n : ℕ) (test : ℕ → Bool) (offends : ℕ → Type 0) (slot : List ℕ) → some n test ≡ true
    → ((i : ℕ) → i < n → move i < length slot) → ((i : ℕ) → test i ≡ true → offends (move i))
    → ((i k : ℕ) → i < move k → offends i → (j : ℕ) × (j < k) × (test j ≡ true))
    → FirstOffender offends slot (one_name slot (move (least n test)))
first_found move n test offends slot found inside its back =
    let is = least_first n test in
    let below = some_first test n (least n test) is found in
    record {
      at = move (least n test);
      within = inside (least n test) below;
      named = refl;
      offender = its (least n test) (is.passes below);
      none_before =
          λ i h so. let before = back i (least n test) h so in not-both before.2 (some-none (least n test) test is.none before.0 before.1);
    }

-- senders each above the one before rise throughout
slot-rises : (slot : List ℕ) → some_not_rising slot ≡ false → (i j : ℕ) → i < j → j < length slot → get_or slot i 0 < get_or slot j 0
slot-rises slot none =
    rises (λ i. get_or slot i 0) (length slot) (λ i h. leb-false _ _ (some-none (length slot - 1) (not_rising slot) none i (omega arith)))

-- the first two that conflict are the lowest
lowest-found : (relation : Relation) (slot : List ℕ) → some_not_rising slot ≡ false → some_conflict relation slot ≡ true
    → LowestTwo relation slot (two_names relation slot)
unfolding two_names
lowest-found relation slot none found =
    record {
      at = at;
      other = other;
      within = (at-within, other-within);
      named = refl;
      smaller = rising at other (ltb-true at other (and_left (ltb at other) _ pair)) other-within;
      conflict = and_right (ltb at other) _ pair;
      lowest = λ i j hi hj below e. lower i j hi hj (order i j hi hj below) e (dec_lt at i);
    }
  where
    n : ℕ
    n = length slot

    behind : ℕ → ℕ → Bool
    behind = conflict_behind relation slot

    at : ℕ
    at = least n (λ i. some n (behind i))

    other : ℕ
    other = least n (behind at)

    rising : (i j : ℕ) → i < j → j < n → get_or slot i 0 < get_or slot j 0
    rising = slot-rises slot none

    at-within : at < n
    at-within = some_first (λ i. some n (behind i)) n at (least_first n (λ i. some n (behind i))) found

    other-within : other < n
    other-within = some_first (behind at) n other (least_first n (behind at)) ((least_first n (λ i. some n (behind i))).passes at-within)

    pair : behind at other ≡ true
    pair = (least_first n (behind at)).passes other-within

    -- the lower of two stands before
    order : (i j : ℕ) → i < n → j < n → get_or slot i 0 < get_or slot j 0 → i < j
    order i j hi hj below = go (dec_lt i j) (dec_lt j i)
      where
        go : Dec (i < j) → Dec (j < i) → i < j
        go (yes l) _ = l
        go (no l) (yes m) = absurd (omega (arith, rising j i m hi))
        go (no l) (no m) = let same : i ≡ j = omega arith in absurd (omega (arith, ap (λ (k : ℕ). get_or slot k 0) same))

    at_most : {k : ℕ} → (other < k) ⊎ (other ≡ k) → k < n → get_or slot other 0 ≤ get_or slot k 0
    at_most {k} (inl l) h = omega (arith, rising other k l h)
    at_most {k} (inr e) h = omega (arith, ap (λ (j : ℕ). get_or slot j 0) e)

    lower : (i j : ℕ) → i < n → j < n → i < j → relation (get_or slot i 0) (get_or slot j 0) ≡ true → Dec (at < i)
        → (get_or slot at 0 < get_or slot i 0) ⊎ ((get_or slot at 0 ≡ get_or slot i 0) × (get_or slot other 0 ≤ get_or slot j 0))
    lower i j hi hj l e (yes m) = inl (rising at i m hi)
    lower i j hi hj l e (no m) =
        let behind-i : behind i j ≡ true = ap₂ ◌&&◌ (lt-ltb i j l) e in
        let same : at ≡ i =
        omega (arith, first-least (λ i. some n (behind i)) n at i (least_first n (λ i. some n (behind i))) (some-found n (behind i) j hj behind-i)) in
        let before = first-least (behind at) n other j (least_first n (behind at)) (subst (λ (k : ℕ). behind k j ≡ true) (sym same) behind-i) in
        inr (ap (λ (k : ℕ). get_or slot k 0) same, at_most (below-or-last other j (omega (arith, before))) hj)

module _ (p : ℕ) (relation : Relation) (held : List ℕ) (place : ℕ) (slot : List Node) where
  abbrev pub TestsFound : Outcome → Type 0
  TestsFound outcome = Found place (some_no_probe p slot) (some_not_rising slot) (some_no_packet held slot) (some_conflict relation slot) outcome

  -- the number that some test of a slot gives names whom it blames
  pub number-blames : (outcome : Outcome) → TestsFound outcome → Blames p relation held slot outcome.number (slot_names p relation held slot outcome.number)
  unfolding slot_names
  number-blames outcome found =
      record {
        no_probe =
            λ e.
            rw e
            (first_found (λ i. i) (length slot) (no_probe p slot) (λ i. is_probe p (get_or slot i 0) ≡ false) slot (found.is_12 e) (λ i h. h)
            (λ i. not-true _) (λ i k h so. (i, h, ap not so)));
        not_rising =
            λ e.
            rw e
            (first_found (λ i. i + 1) (length slot - 1) (not_rising slot) (λ i. (0 < i) × (get_or slot i 0 ≤ get_or slot (i - 1) 0)) slot (found.is_13 e)
            (λ i h. omega arith)
            (λ i so. (omega arith, omega (arith, leb-true (get_or slot (i + 1) 0) (get_or slot i 0) so, ap (λ (k : ℕ). get_or slot k 0) (one-back i))))
            (λ i k h so. (
              i - 1,
              omega (arith, so.0),
              le-leb (get_or slot (i - 1 + 1) 0) (get_or slot (i - 1) 0) (omega (arith, so.1, ap (λ (k : ℕ). get_or slot k 0) (on-again i so.0))),
            )));
        no_packet =
            λ e.
            rw e
            (first_found (λ i. i) (length slot) (no_packet held slot) (λ i. get_or held (get_or slot i 0) 0 ≡ 0) slot (found.is_14 e) (λ i h. h)
            (λ i so. omega (arith, ltb-false 0 (get_or held (get_or slot i 0) 0) (not-true _ so)))
            (λ i k h so. (i, h, ap not (le-ltb 0 (get_or held (get_or slot i 0) 0) (omega arith)))));
        conflict = λ e. rw e (lowest-found relation slot (found.is_15 e).0 (found.is_15 e).1);
      }
    where
      one-back : (i : ℕ) → i + 1 - 1 ≡ i
      one-back i = omega arith

      on-again : (i : ℕ) → 0 < i → i - 1 + 1 ≡ i
      on-again i h = omega arith

  pub slot-found : TestsFound (slot_test p relation held place slot)
  unfolding slot_test
  slot-found = tests-found place _ _ _ _

  -- a slot's test names whom its number blames
  pub slot-blames : Blames p relation held slot (slot_test p relation held place slot).number (slot_tested p relation held place slot).names
  unfolding slot_tested
  slot-blames = number-blames (slot_test p relation held place slot) slot-found

  pub slot-without-names : (slot_tested p relation held place slot).outcome ≡ slot_test p relation held place slot
  unfolding slot_tested
  slot-without-names = refl

-- every other number names nobody
pub names-else : (p : ℕ) (relation : Relation) (held : List ℕ) (slot : List Node) (number : ℕ) → (number < 12) ⊎ (15 < number)
    → slot_names p relation held slot number ≡ nobody
unfolding slot_names
names-else p relation held slot number out =
    simp (other 12 (omega arith) (omega arith), other 13 (omega arith) (omega arith), other 14 (omega arith) (omega arith), other 15 (omega arith) (omega arith))
  where
    other : (k : ℕ) → 12 ≤ k → k ≤ 15 → eqb number k ≡ false
    other k low high = ne_eqb number k (λ e. else-named number out (omega (arith, e), omega (arith, e)))
