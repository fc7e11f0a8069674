-- A pass over the slots of a plan that run leaves each list with the slots that its test finds. Sender by sender: of the senders of a slot at most one
-- passes a list's test, so that no slot comes twice; then slot by slot.
use mathlib.Core.Path.{◌≡◌, refl, sym, ap, ◌∙◌, subst}
use mathlib.Core.Bool.{Bool, true, false, cond, ◌||◌}
use mathlib.Core.List.{List, [], ◌∷◌, ◌++◌, append_assoc, append-nil}
use mathlib.Core.Logic.{⊎_elim}
use Prim.Native.Nat.{ℕ, suc, ◌+◌, ◌-◌, ◌*◌, ◌≤◌, ◌<◌}
use native.Mathlib.Omega.{arith}
use lib.Dec.{eqb, ltb}
use lib.ListN.{length, get_or, length-append}
use borrow.Author.Tests.{eq-eqb, ne_eqb, lt-ltb}
use Rattle.meaning.specs.Words.{some, sum, places}
use Rattle.meaning.specs.Yard.{is_probe}
use Rattle.meaning.specs.Sheet.{probe_count, parent_of}
use Rattle.meaning.specs.Rounds.{moved}
use Rattle.meaning.specs.Answer.{is_accepted, sheet_test}
use Rattle.meaning.specs.Book.{some_sender, slots_where}
use Rattle.meaning.specs.Legal.{Legal, RunsIn, Runs}
use Rattle.laws.proofs.Turns.{some-where, some-found, none-some}
use Rattle.laws.proofs.Walk.{not-both, probe-yes, probe-most, probe-at}
use Rattle.laws.proofs.Slots.{true-or-false}
use Rattle.limits.proofs.Sums.{for_each-counts}
use Rattle.limits.proofs.Exclusive.{Exclusive}
use Rattle.limits.proofs.Fewest.{children-exclusive}
use Rattle.limits.proofs.BookLength.{alone-exclusive}
use Rattle.limits.proofs.AcceptedYard as Yard
use Rattle.reader.specs.Noted.{noted, noted_sender, noted_slot, noted_slots}
use Rattle.book.proofs.OneList.{noted-end}
use Rattle.book.proofs.Entries.{Room, Fit, OneMore, making, making-same, making-length, sends-noted, hears-noted}

-- a number, where a test passed
abbrev one : (number : ℕ) → Bool → List ℕ
one number b = cond b (number ∷ []) []

one_less : (number : ℕ) (b c : Bool) → (b ≡ true → c ≡ true) → length (one number b) ≤ length (one number c)
one_less number false c so = omega arith
one_less number true c so = omega (arith, ap (λ (d : Bool). length (one number d)) (so refl))

or-none : (b c : Bool) → c ≡ false → (b || c) ≡ b
or-none true c e = refl
or-none false c e = e

-- the lists of the probes that `who` names: a slot is in the list of k + 2 where a sender has this for its `who`
module _ (s : List ℕ) (who : ℕ → ℕ) where
  abbrev test : (k : ℕ) → ℕ → Bool
  test k u = eqb (who u) (k + 2)

  -- the lists after so many senders of a slot with this number
  abbrev after : (slot : List ℕ) → (number : ℕ) → (lists : ℕ → List ℕ) → (i k : ℕ) → List ℕ
  after slot number lists i k = lists k ++ one number (some i (λ j. test k (get_or slot j 0)))

  -- the lists after these slots
  abbrev passed : (number : ℕ) → (slots : List (List ℕ)) → (lists : ℕ → List ℕ) → (k : ℕ) → List ℕ
  passed number slots lists k = lists k ++ slots_where (some_sender (test k)) number slots

  -- a list has room on the way if it has in the end
  on-the-way : (many : ℕ → ℕ) (number : ℕ) (slot : List ℕ) (slots : List (List ℕ)) (lists : ℕ → List ℕ) → Fit (probe_count s) many (passed number (slot ∷ slots) lists)
      → (i : ℕ) → i ≤ length slot → Fit (probe_count s) many (after slot number lists i)
  unfolding slots_where
  on-the-way many number slot slots lists fit i h k hk =
      let t : ℕ → Bool = λ j. test k (get_or slot j 0) in
      let later : List ℕ = slots_where (some_sender (test k)) (number + 1) slots in
      omega (
        arith,
        fit k hk,
        length-append (lists k) (one number (some i t)),
        length-append (lists k) (one number (some (length slot) t) ++ later),
        length-append (one number (some (length slot) t)) later,
        one_less number (some i t) (some (length slot) t)
            (λ e. let found = some-where i t e in some-found (length slot) t found.0 (omega (arith, found.1)) found.2),
      )

  module _ (number : ℕ) (slot : List ℕ) (lists : ℕ → List ℕ) (i : ℕ) where
    -- a sender that the test of a list does not find leaves it alone
    stays : (k : ℕ) → (who (get_or slot i 0) ≡ k + 2 → ⊥) → after slot number lists (suc i) k ≡ after slot number lists i k
    unfolding some
    stays k other =
        ap (λ (b : Bool). lists k ++ one number b)
        (or-none (some i (λ j. test k (get_or slot j 0))) (test k (get_or slot i 0)) (ne_eqb (who (get_or slot i 0)) (k + 2) other))

    grows : (k : ℕ) → some i (λ j. test k (get_or slot j 0)) ≡ false → who (get_or slot i 0) ≡ k + 2
        → after slot number lists (suc i) k ≡ after slot number lists i k ++ (number ∷ [])
    unfolding some
    grows k none here =
        go (some i (λ j. test k (get_or slot j 0))) (test k (get_or slot i 0)) none (eq-eqb (who (get_or slot i 0)) (k + 2) here)
      where
        go : (b c : Bool) → b ≡ false → c ≡ true → lists k ++ one number (b || c) ≡ (lists k ++ one number b) ++ (number ∷ [])
        go b c e q =
            ap (λ (d : Bool). lists k ++ one number (d || c)) e ∙ ap (λ (d : Bool). lists k ++ one number d) q
            ∙ ap (λ (l : List ℕ). l ++ (number ∷ [])) (sym (append-nil (lists k)))
            ∙ ap (λ (d : Bool). (lists k ++ one number d) ++ (number ∷ [])) (sym e)

    module _ (exclusive : (k : ℕ) → Exclusive s (test k)) (held : List ℕ) (legal : Legal s held slot) (hi : i < length slot) where
      -- beside a sender that passes, no earlier one does
      none_before : (k : ℕ) → test k (get_or slot i 0) ≡ true → some i (λ j. test k (get_or slot j 0)) ≡ false
      none_before k e =
          none-some i (λ j. test k (get_or slot j 0))
          (λ j hj.
          ⊎_elim
          (λ (q : test k (get_or slot j 0) ≡ true).
          not-both
          (exclusive k (get_or slot j 0) (get_or slot i 0) (legal.probes j (omega arith)) (legal.probes i hi)
          (λ same. omega (arith, legal.rising j i hj hi)) q e)
          (legal.apart j i hj hi))
          (λ (q : test k (get_or slot j 0) ≡ false). q)
          (true-or-false (test k (get_or slot j 0))))

      one_more : is_probe (probe_count s) (who (get_or slot i 0)) ≡ true
          → OneMore (probe_count s) number (who (get_or slot i 0) - 2) (after slot number lists i) (after slot number lists (suc i))
      one_more probe =
          let there = probe-at (probe_count s) (who (get_or slot i 0)) probe in
          let k : ℕ = who (get_or slot i 0) - 2 in
          record {
            within = there.0;
            more = grows k (none_before k (eq-eqb (who (get_or slot i 0)) (k + 2) (sym there.1))) (sym there.1);
            others = λ j hj other. stays j (λ e. other (omega arith));
          }

    none_more : is_probe (probe_count s) (who (get_or slot i 0)) ≡ false
        → (k : ℕ) → k < probe_count s → after slot number lists i k ≡ after slot number lists (suc i) k
    none_more none k h =
        sym
        (stays k
        (λ e.
        not-both (probe-yes (probe_count s) (k + 2) (omega arith) (omega arith)) (subst (λ (u : ℕ). is_probe (probe_count s) u ≡ false) e none)))

-- where the lists of each sender stand: its own, and its parent's, if that is a probe
pub record Placed (s : List ℕ) (sent heard : ℕ → ℕ) (end : ℕ) (at : List ℕ) : Type 0 where
  pub sends : (v : ℕ) → is_probe (probe_count s) v ≡ true → get_or at (2 * v) 0 ≡ sum (v - 2) (λ k. 4 + 2 * sent k + 2 * heard k)
  pub hears : (v : ℕ) → is_probe (probe_count s) v ≡ true → is_probe (probe_count s) (parent_of s v) ≡ true
      → get_or at (2 * v + 1) 0 ≡ sum (parent_of s v - 2) (λ k. 4 + 2 * sent k + 2 * heard k) + 2 + 2 * sent (parent_of s v - 2)
  pub gateway : (v : ℕ) → is_probe (probe_count s) v ≡ true → is_probe (probe_count s) (parent_of s v) ≡ false → get_or at (2 * v + 1) 0 ≡ end

module _ (s : List ℕ) (ok : is_accepted (sheet_test s) ≡ true) (sent heard : ℕ → ℕ) (a : Room (probe_count s) sent) (b : Room (probe_count s) heard)
    (tail at : List ℕ) (placed : Placed s sent heard (sum (probe_count s) (λ k. 4 + 2 * sent k + 2 * heard k) + length tail) at) where
  abbrev book : (l m : ℕ → List ℕ) → List ℕ
  book = making (probe_count s) sent heard a b tail

  abbrev own : ℕ → ℕ
  own u = u

  module _ (held : List ℕ) (number : ℕ) (slot : List ℕ) (slots : List (List ℕ)) (legal : Legal s held slot) (l m : ℕ → List ℕ)
      (fit : Fit (probe_count s) sent (passed s own number (slot ∷ slots) l))
      (fit₂ : Fit (probe_count s) heard (passed s (parent_of s) number (slot ∷ slots) m)) where
    abbrev own_after : ℕ → ℕ → List ℕ
    own_after = after s own slot number l

    abbrev heard_after : ℕ → ℕ → List ℕ
    heard_after = after s (parent_of s) slot number m

    fits : (i : ℕ) → i ≤ length slot → Fit (probe_count s) sent (own_after i)
    fits = on-the-way s own sent number slot slots l fit

    fits₂ : (i : ℕ) → i ≤ length slot → Fit (probe_count s) heard (heard_after i)
    fits₂ = on-the-way s (parent_of s) heard number slot slots m fit₂

    module _ (i : ℕ) (hi : i < length slot) where
      abbrev u : ℕ
      u = get_or slot i 0

      own-noted : noted (get_or at (2 * u) 0) number (book (own_after i) (heard_after i)) ≡ book (own_after (suc i)) (heard_after i)
      own-noted =
          let probe = legal.probes i hi in
          let more = one_more s own number slot l i (λ k. alone-exclusive s (k + 2)) held legal hi probe in
          ap (λ (k : ℕ). noted k number (book (own_after i) (heard_after i))) (placed.sends u probe)
          ∙ sends-noted (probe_count s) sent heard a b tail (own_after i) (heard_after i) (fits i (omega arith)) (fits₂ i (omega arith)) (own_after (suc i)) number (u - 2)
          more
          (omega (
            arith,
            fits (suc i) hi (u - 2) more.within,
            ap length more.more,
            length-append (own_after i (u - 2)) (number ∷ []),
          ))

      heard-noted : noted (get_or at (2 * u + 1) 0) number (book (own_after (suc i)) (heard_after i)) ≡ book (own_after (suc i)) (heard_after (suc i))
      heard-noted =
          let probe = legal.probes i hi in
          ⊎_elim
          (λ (up : is_probe (probe_count s) (parent_of s u) ≡ true).
          let k : ℕ = parent_of s u - 2 in
          let more = one_more s (parent_of s) number slot m i (λ k. children-exclusive s ok (k + 2)) held legal hi up in
          ap (λ (k : ℕ). noted k number (book (own_after (suc i)) (heard_after i))) (placed.hears u probe up)
          ∙ hears-noted (probe_count s) sent heard a b tail (own_after (suc i)) (heard_after i) (fits (suc i) hi) (fits₂ i (omega arith)) (heard_after (suc i)) number k
          more
          (omega (
            arith,
            fits₂ (suc i) hi k more.within,
            ap length more.more,
            length-append (heard_after i k) (number ∷ []),
          )))
          (λ (none : is_probe (probe_count s) (parent_of s u) ≡ false).
          noted-end (get_or at (2 * u + 1) 0) number (book (own_after (suc i)) (heard_after i))
          (omega (
            arith,
            placed.gateway u probe none,
            making-length (probe_count s) sent heard a b tail (own_after (suc i)) (heard_after i) (fits (suc i) hi) (fits₂ i (omega arith)),
          ))
          ∙ making-same (probe_count s) sent heard a b tail (own_after (suc i)) (own_after (suc i)) (heard_after i) (heard_after (suc i)) (λ _ _. refl)
          (none_more s (parent_of s) number slot m i none))
          (true-or-false (is_probe (probe_count s) (parent_of s u)))

      sender-noted : noted_sender at number u (book (own_after i) (heard_after i)) ≡ book (own_after (suc i)) (heard_after (suc i))
      unfolding noted_sender
      sender-noted =
          let probe = legal.probes i hi in
          let node : ltb u places ≡ true = lt-ltb u places (omega (arith, probe-most (probe_count s) u probe, Yard.few s ok)) in
          ap
          (λ (t : Bool).
          cond t (noted (get_or at (2 * u + 1) 0) number (noted (get_or at (2 * u) 0) number (book (own_after i) (heard_after i)))) (book (own_after i) (heard_after i)))
          node
          ∙ ap (noted (get_or at (2 * u + 1) 0) number) own-noted
          ∙ heard-noted

    slot-noted : noted_slot at number slot (book l m) ≡ book (own_after (length slot)) (heard_after (length slot))
    unfolding noted_slot some
    slot-noted =
        for_each-counts (λ i now. now ≡ book (own_after i) (heard_after i)) (length slot) (λ i. noted_sender at number (get_or slot i 0)) (book l m)
        (making-same (probe_count s) sent heard a b tail l (own_after 0) m (heard_after 0) (λ k _. sym (append-nil (l k))) (λ k _. sym (append-nil (m k))))
        (λ i hi now e. ap (noted_sender at number (get_or slot i 0)) e ∙ sender-noted i hi)

  pub slots-noted : (held : List ℕ) (number : ℕ) (slots : List (List ℕ)) → Runs s held slots → (l m : ℕ → List ℕ)
      → Fit (probe_count s) sent (passed s own number slots l) → Fit (probe_count s) heard (passed s (parent_of s) number slots m)
      → noted_slots at number slots (book l m) ≡ book (passed s own number slots l) (passed s (parent_of s) number slots m)
  unfolding RunsIn noted_slots slots_where
  slots-noted held number [] runs l m fit fit₂ =
      making-same (probe_count s) sent heard a b tail l (passed s own number [] l) m (passed s (parent_of s) number [] m) (λ k _. sym (append-nil (l k)))
      (λ k _. sym (append-nil (m k)))
  slots-noted held number (slot ∷ slots) runs l m fit fit₂ =
      let l' : ℕ → List ℕ = after s own slot number l (length slot) in
      let m' : ℕ → List ℕ = after s (parent_of s) slot number m (length slot) in
      let same : (k : ℕ) → passed s own (number + 1) slots l' k ≡ passed s own number (slot ∷ slots) l k =
      λ k. append_assoc (l k) (one number (some_sender (test s own k) slot)) (slots_where (some_sender (test s own k)) (number + 1) slots) in
      let same₂ : (k : ℕ) → passed s (parent_of s) (number + 1) slots m' k ≡ passed s (parent_of s) number (slot ∷ slots) m k =
      λ k. append_assoc (m k) (one number (some_sender (test s (parent_of s) k) slot)) (slots_where (some_sender (test s (parent_of s) k)) (number + 1) slots) in
      ap (noted_slots at (number + 1) slots) (slot-noted held number slot slots runs.0 l m fit fit₂)
      ∙ slots-noted (moved (parent_of s) slot held) (number + 1) slots runs.1 l' m' (λ k h. omega (arith, fit k h, ap length (same k)))
      (λ k h. omega (arith, fit₂ k h, ap length (same₂ k)))
      ∙ making-same (probe_count s) sent heard a b tail (passed s own (number + 1) slots l') (passed s own number (slot ∷ slots) l)
      (passed s (parent_of s) (number + 1) slots m') (passed s (parent_of s) number (slot ∷ slots) m) (λ k _. same k) (λ k _. same₂ k)
