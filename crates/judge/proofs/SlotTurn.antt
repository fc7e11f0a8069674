-- The turn of one slot: it passes and what is sent moves, or it is refused and nothing moves; and the ways that the code goes through it.
use mathlib.Core.Path.{◌≡◌, sym, ap, ap₂, ◌∙◌}
use mathlib.Core.Bool.{Bool, true}
use mathlib.Core.List.{List}
use mathlib.Core.Logic.{◌⊎◌, inl, ⊎_elim}
use Prim.Native.Nat.{ℕ, ◌≤◌, ◌<◌}
use native.Mathlib.Omega.{arith}
use borrow.Author.Tests.{lt-ltb, le-ltb, eq-eqb, ne_eqb}
use lib.Dec.{ltb}
use lib.ListN.{length}
use Rattle.meaning.specs.declared.Mode.{Mode}
use Rattle.meaning.specs.declared.Outcome.{Outcome}
use Rattle.meaning.specs.Returned.{Tested}
use Rattle.meaning.specs.Words.{places}
use Rattle.meaning.specs.Rounds.{moved, may_in, goes_in}
use Rattle.meaning.specs.Answer.{is_accepted, given, ◌then◌}
use Rattle.meaning.specs.Plan.{next_at, senders_at}
use Rattle.meaning.specs.Judge.{slot_test, slot_names, slot_tested, Judging, slot_judged}
use Rattle.laws.proofs.Moving.{weigh, Sender, length_moved, kept}
use Rattle.laws.proofs.Accepted.{then-goes}
use Rattle.slot.specs.declared.SlotAt.{SlotAt}
use Rattle.slot.specs.Place.{slot_at}
use Rattle.laws.specs.Few.{at_most63}
use Rattle.slot.specs.Move.{moved_within}
use Rattle.slot.proofs.Places.{lent, next-read, slot_read}
use Rattle.laws.proofs.Few.{as_many}
use Rattle.laws.proofs.Passed.{passed, Passes, Refused, turn}
use Rattle.laws.proofs.Naming.{names-else}
use Rattle.laws.proofs.Running.{each_at}
use Rattle.slot.proofs.Within.{moved-within}
use Rattle.judge.specs.SlotTurn.{judging_from, Ready, unnamed_at}

module _ (mode : Mode) (p : ℕ) (parent : ℕ → ℕ) (relation : ℕ → ℕ → Bool) (plan : List ℕ) (place : ℕ) (now : Judging) where
  abbrev slot : List ℕ
  slot = senders_at plan now.at

  abbrev after : Judging
  after = slot_judged mode p parent relation plan place now

  abbrev Pass : Type 0
  Pass = Passes mode p parent relation plan place now

  abbrev Refuse : Type 0
  Refuse = Refused mode p parent relation plan place now

  -- the next slot begins within the plan
  pub turn_inside : now.at ≤ length plan → after.at ≤ length plan
  turn_inside h = ⊎_elim (λ (w : Pass). omega (arith, w.next, w.within)) (λ (w : Refuse). omega (arith, w.stays)) (turn mode p parent relation plan place now)

  pub turn-long : length now.held ≡ places → length after.held ≡ places
  turn-long h =
      ⊎_elim (λ (w : Pass). ap length w.moves ∙ length_moved (goes_in mode parent) slot now.held ∙ h) (λ (w : Refuse). ap length w.rests ∙ h)
      (turn mode p parent relation plan place now)

  -- conservation: what all nodes hold together stays
  pub turn-kept : Ready mode p parent now.held → weigh (λ _. 1) after.held ≡ weigh (λ _. 1) now.held
  turn-kept ready =
      ⊎_elim
      (λ (w : Pass).
      let may = passed mode p parent relation now.held slot place ready.few ready.parents w.tested in
      ap (weigh (λ _. 1)) w.moves ∙ kept (goes_in mode parent) 1 slot now.held ready.long may.rising may.sending)
      (λ (w : Refuse). ap (weigh (λ _. 1)) w.rests)
      (turn mode p parent relation plan place now)

-- the ways of the code through a turn, with where it has read the slot and what it answers
module _ (plan : List ℕ) (at : ℕ) (here : SlotAt) (is : here ≡ slot_at plan at) (inside : at ≤ length plan) (mode : Mode) (p : ℕ)
    (parent : ℕ → ℕ) (relation : ℕ → ℕ → Bool) (place : ℕ) (held : List ℕ) (o : Outcome) where
  abbrev whole : Judging
  whole = slot_judged mode p parent relation plan place (judging_from at held)

  abbrev senders : List ℕ
  senders = senders_at plan at

  -- 11: the slot runs past the end
  pub turn-short : o ≡ record { number = 11; place = place } → length plan < here.next → record { outcome = o; at = at; held = held } ≡ whole
  unfolding slot_judged ◌then◌
  turn-short told short =
      let past : ltb (length plan) (next_at plan at) ≡ true = lt-ltb (length plan) (next_at plan at) (omega (arith, next-read plan at here is inside)) in
      simp (past, told)

  module _ (within : here.next ≤ length plan) (ready : Ready mode p parent held)
      (tested : o ≡ slot_test (at_most63 p) relation (may_in mode (at_most63 p) parent held) place (lent plan here)) where
    abbrev test : Outcome
    test = slot_test p relation (may_in mode p parent held) place senders

    test_read : o ≡ test
    test_read =
        tested
        ∙ ap₂ (λ (n : ℕ) (slot : List ℕ). slot_test n relation (may_in mode n parent held) place slot) (as_many p ready.few) (slot_read plan at here is inside)

    behind : (given 11 place (ltb (length plan) (next_at plan at)) then test) ≡ o
    behind =
        then-goes _ test
        (ap (λ (b : Bool). is_accepted (given 11 place b)) (le-ltb (length plan) (next_at plan at) (omega (arith, next-read plan at here is inside))))
        ∙ sym test_read

    -- 12 to 15
    pub turn-refused : (o.number ≡ 0 → ⊥) → record { outcome = o; at = at; held = held } ≡ whole
    unfolding slot_judged
    turn-refused some = simp (behind, ne_eqb o.number 0 some)

    -- the slot passes, so its senders may send
    pub turn-passed : o.number ≡ 0 → (held' : List ℕ) → held' ≡ moved_within (goes_in mode parent) (lent plan here) held
        → record { outcome = o; at = here.next; held = held' } ≡ whole
    unfolding slot_judged
    turn-passed none held' moves =
        let may =
        passed mode p parent relation held senders place ready.few ready.parents
        (ap (λ (x : Outcome). is_accepted x) (sym test_read) ∙ eq-eqb o.number 0 none)
        in
        let moved-slot : held' ≡ moved (goes_in mode parent) senders held =
        moves ∙ ap (λ (slot : List ℕ). moved_within (goes_in mode parent) slot held) (slot_read plan at here is inside)
        ∙ moved-within (goes_in mode parent) senders held ready.long ready.packets may.rising
        (each_at (Sender (goes_in mode parent) held) senders may.sending)
        in
        simp (next-read plan at here is inside, behind, eq-eqb o.number 0 none, moved-slot)

-- whom the slot's test names is whom its number names, in the slot as it stands in the plan
module _ (plan : List ℕ) (at : ℕ) (here : SlotAt) (is : here ≡ slot_at plan at) (inside : at ≤ length plan) (mode : Mode) (p : ℕ)
    (parent : ℕ → ℕ) (few : p ≤ 63) (relation : ℕ → ℕ → Bool) (place : ℕ) (held : List ℕ) (t : Tested)
    (tested : t ≡ slot_tested (at_most63 p) relation (may_in mode (at_most63 p) parent held) place (lent plan here)) where
  abbrev may : ℕ → List ℕ
  may n = may_in mode n parent held

  pub outcome-tested : t.outcome ≡ slot_test (at_most63 p) relation (may (at_most63 p)) place (lent plan here)
  unfolding slot_tested
  outcome-tested = ap (λ (x : Tested). x.outcome) tested

  pub names-tested : t.names ≡ slot_names p relation (may p) (senders_at plan at) t.outcome.number
  unfolding slot_tested
  names-tested =
      ap (λ (x : Tested). x.names) tested
      ∙ ap₂ (λ (n : ℕ) (slot : List ℕ). slot_names n relation (may n) slot (slot_test (at_most63 p) relation (may (at_most63 p)) place (lent plan here)).number)
      (as_many p few) (slot_read plan at here is inside)
      ∙ ap (λ (o : Outcome). slot_names p relation (may p) (senders_at plan at) o.number) (sym outcome-tested)

  -- where the slot passes, nobody, whatever slot comes next
  pub names-passed : t.outcome.number ≡ 0 → (held' slot' : List ℕ) → t.names ≡ slot_names p relation held' slot' t.outcome.number
  names-passed none held' slot' =
      names-tested ∙ names-else p relation (may p) (senders_at plan at) _ (inl (omega arith)) ∙ sym (names-else p relation held' slot' _ (inl (omega arith)))

-- 11, 16, 17 and what passes name nobody, in whatever slot
pub names-unnamed : (p : ℕ) (relation : ℕ → ℕ → Bool) (held slot : List ℕ) (t : Tested) (number place : ℕ) → t ≡ unnamed_at number place
    → (number < 12) ⊎ (15 < number) → t.names ≡ slot_names p relation held slot t.outcome.number
names-unnamed p relation held slot t number place is else =
    ap (λ (x : Tested). x.names) is
    ∙ sym (names-else p relation held slot number else)
    ∙ ap (λ (x : Tested). slot_names p relation held slot x.outcome.number) (sym is)
