-- The tests of one slot in their order, as the code takes them: what finds something gives its number, and what finds nothing leaves the
-- answer to the next.
use mathlib.Core.Path.{◌≡◌, refl, sym, ap, ◌∙◌}
use mathlib.Core.Bool.{Bool, true, false}
use mathlib.Core.List.{List}
use Prim.Native.Nat.{ℕ, ◌+◌, ◌-◌, ◌%◌, ◌≤◌, ◌<◌}
use native.Mathlib.Omega.{arith}
use borrow.Author.Tests.{not-false, lt-ltb, le-ltb, ltb-true, ltb-false}
use lib.Dec.{ltb}
use lib.ListN.{length, get_or}
use Rattle.meaning.specs.Returned.{Tested}
use Rattle.meaning.specs.Words.{for_each, some, least}
use Rattle.meaning.specs.Yard.{is_probe}
use Rattle.meaning.specs.Rounds.{holds}
use Rattle.meaning.specs.Answer.{accepted, ◌then◌}
use Rattle.meaning.specs.Judge.{no_probe, not_rising, no_packet, some_no_probe, some_not_rising, some_no_packet, slot_test, nobody, two_names, slot_names, slot_tested}
use Rattle.laws.proofs.Turns.{some-none}
use Rattle.laws.proofs.Walk.{probe-yes, probe-least, probe-most}
use Rattle.laws.specs.Few.{at_most63}
use Rattle.slot.specs.declared.Two.{Two}
use Rattle.slot.specs.SlotSenders.{Nodes, first_two, blaming, lone_tested}
use Rattle.slot.proofs.Looking.{least-some, least-none}
use Rattle.slot.proofs.Pairs.{two-conflict, none-conflict}

module _ (p : ℕ) (relation : ℕ → ℕ → Bool) (held : List ℕ) (place : ℕ) (slot : List ℕ) where
  abbrev whole : Tested
  whole = slot_tested p relation held place slot

  -- where the search for each has come to
  module _ (i : ℕ) (stranger : i ≡ least (length slot) (no_probe p slot)) where
    pub gives-12 : i < length slot → blaming 12 place (get_or slot i 0) 0 ≡ whole
    unfolding slot_tested slot_test slot_names ◌then◌
    gives-12 h = simp (least-some (no_probe p slot) (length slot) i stranger h, stranger)

    module _ (none : length slot ≤ i) (j : ℕ) (later : j ≡ least (length slot - 1) (not_rising slot) + 1) where
      probes : some_no_probe p slot ≡ false
      probes = least-none (no_probe p slot) (length slot) i stranger none

      pub gives-13 : j < length slot → blaming 13 place (get_or slot j 0) 0 ≡ whole
      unfolding slot_tested slot_test slot_names ◌then◌
      gives-13 h = simp (probes, least-some (not_rising slot) (length slot - 1) (least (length slot - 1) (not_rising slot)) refl (omega arith), later)

      module _ (all : length slot ≤ j) (k : ℕ) (empty : k ≡ least (length slot) (no_packet held slot)) where
        rising : some_not_rising slot ≡ false
        rising = least-none (not_rising slot) (length slot - 1) (least (length slot - 1) (not_rising slot)) refl (omega arith)

        pub gives-14 : k < length slot → blaming 14 place (get_or slot k 0) 0 ≡ whole
        unfolding slot_tested slot_test slot_names ◌then◌
        gives-14 h = simp (probes, rising, least-some (no_packet held slot) (length slot) k empty h, empty)

        module _ (each : length slot ≤ k) (two : Two) (is : two ≡ first_two relation slot) where
          packets : some_no_packet held slot ≡ false
          packets = least-none (no_packet held slot) (length slot) k empty each

          pub gives-15 : two.first < length slot → blaming 15 place (get_or slot two.first 0) (get_or slot two.second 0) ≡ whole
          unfolding slot_tested slot_test slot_names two_names first_two ◌then◌
          gives-15 h = simp (probes, rising, packets, two-conflict relation slot two is h, is)

          pub gives_none : length slot ≤ two.first → record { outcome = accepted; names = nobody } ≡ whole
          unfolding slot_tested slot_test slot_names ◌then◌
          gives_none h = simp (probes, rising, packets, none-conflict relation slot two is h)

-- a slot with one sender: 13 and 15 find nothing
pub lone-slot : (p : ℕ) (relation : ℕ → ℕ → Bool) (held : List ℕ) (place : ℕ) (slot : List ℕ) → length slot ≡ 1
    → lone_tested p held place (get_or slot 0 0) ≡ slot_tested p relation held place slot
unfolding lone_tested slot_tested slot_test slot_names some least for_each ◌then◌
lone-slot p relation held place slot e = go (is_probe p (get_or slot 0 0)) refl (holds held (get_or slot 0 0)) refl
  where
    go : (a : Bool) → is_probe p (get_or slot 0 0) ≡ a → (b : Bool) → holds held (get_or slot 0 0) ≡ b
        → lone_tested p held place (get_or slot 0 0) ≡ slot_tested p relation held place slot
    go false x b y = simp (e, x)
    go true x false y = simp (e, x, y)
    go true x true y = simp (e, x, y)

-- its tests as the code takes them
module _ (p : ℕ) {few : ℕ} (is : few ≡ p) (held : List ℕ) (place sender : ℕ) where
  said : (b : Bool) → is_probe few sender ≡ b → is_probe p sender ≡ b
  said b e = ap (λ (n : ℕ). is_probe n sender) (sym is) ∙ e

  pub lone-12 : is_probe few sender ≡ false → blaming 12 place sender 0 ≡ lone_tested p held place sender
  unfolding lone_tested
  lone-12 e = simp (said false e)

  module _ (probe : is_probe few sender ≡ true) where
    pub lone-14 : get_or held sender 0 ≤ 0 → blaming 14 place sender 0 ≡ lone_tested p held place sender
    unfolding lone_tested
    lone-14 h = simp (said true probe, le-ltb 0 (get_or held sender 0) h)

    pub lone-none : 1 ≤ get_or held sender 0 → record { outcome = accepted; names = nobody } ≡ lone_tested p held place sender
    unfolding lone_tested
    lone-none h = simp (said true probe, lt-ltb 0 (get_or held sender 0) h)

-- a probe's number less 2, wrapped, is below p, and that of no other byte is
pub probe-wrapped : (p sender less : ℕ) → p ≤ 63 → less < 256 → (less + 2) % 256 ≡ sender → ltb less p ≡ is_probe p sender
probe-wrapped p sender less few byte wraps = go (ltb less p) refl (is_probe p sender) refl
  where
    go : (a : Bool) → ltb less p ≡ a → (b : Bool) → is_probe p sender ≡ b → a ≡ b
    go true e true q = refl
    go false e false q = refl
    go true e false q = sym (probe-yes p sender (omega (arith, ltb-true less p e)) (omega (arith, ltb-true less p e))) ∙ q
    go false e true q = absurd (omega (arith, ltb-false less p e, probe-least p sender q, probe-most p sender q))

-- where none is no probe, each sender is a node
pub nodes : (p : ℕ) (slot : List ℕ) (k : ℕ) → k ≡ least (length slot) (no_probe (at_most63 p) slot) → length slot ≤ k → Nodes slot
nodes p slot k is none i hi =
    let probe : is_probe (at_most63 p) (get_or slot i 0) ≡ true =
    not-false _ (some-none (length slot) (no_probe (at_most63 p) slot) (least-none (no_probe (at_most63 p) slot) (length slot) k is none) i hi)
    in
    omega (arith, probe-most (at_most63 p) (get_or slot i 0) probe)
