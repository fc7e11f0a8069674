-- A pass over a plan's slots, turn by turn: what is left to note from where the reader stands is what was to be noted, and a place past the plan's
-- end has no senders, as every place behind it, so that a reader that stays just behind the end reads what the meaning reads.
use mathlib.Core.Path.{◌≡◌, refl, sym, ap, ap₂, ◌∙◌}
use mathlib.Core.List.{List, [], ◌∷◌}
use Prim.Native.Nat.{ℕ, zero, suc, ◌+◌, ◌-◌, ◌≤◌, ◌<◌}
use native.Mathlib.Decide.{dec_le}
use native.Mathlib.Omega.{arith}
use lib.ListN.{length, get_or, take, drop_of_length-le}
use lib.Seq.{take-nil}
use Rattle.meaning.specs.Words.{Bytes, Slots}
use Rattle.meaning.specs.Plan.{next_at, senders_at, slots_from}
use Rattle.slot.specs.declared.SlotAt.{SlotAt}
use Rattle.slot.specs.Place.{slot_at}
use Rattle.slot.proofs.Places.{slot-within, slot-past}
use Rattle.reader.specs.Noted.{noted_slot, noted_slots}

-- past the end of a plan nobody sends
nobody-past : (plan : Bytes) (at : ℕ) → length plan ≤ at → senders_at plan at ≡ []
nobody-past plan at h = ap (take (get_or plan at 0)) (drop_of_length-le plan {i = at + 1} (omega arith)) ∙ take-nil (get_or plan at 0)

-- so any two places past the end read alike
past-alike : (plan : Bytes) (x y many : ℕ) → length plan ≤ x → length plan ≤ y → slots_from plan x many ≡ slots_from plan y many
unfolding slots_from
past-alike plan x y zero p q = refl
past-alike plan x y (suc many) p q =
    ap₂ (λ (slot : List ℕ) (slots : Slots). slot ∷ slots) (nobody-past plan x p ∙ sym (nobody-past plan y q))
    (past-alike plan (next_at plan x) (next_at plan y) many (omega arith) (omega arith))

-- the slots behind a slot are those from where a reader goes
behind-alike : (plan : Bytes) (at many : ℕ) → slots_from plan (next_at plan at) many ≡ slots_from plan (slot_at plan at).next many
behind-alike plan at many = go (dec_le at (length plan))
  where
    go : Dec (at ≤ length plan) → slots_from plan (next_at plan at) many ≡ slots_from plan (slot_at plan at).next many
    go (yes h) = ap (λ (s : SlotAt). slots_from plan s.next many) (sym (slot-within plan at h))
    go (no over) =
        let next : (slot_at plan at).next ≡ length plan + 1 = ap (λ (s : SlotAt). s.next) (sym (slot-past plan at (omega (arith, over)))) in
        past-alike plan (next_at plan at) (slot_at plan at).next many (omega (arith, over)) (omega (arith, next))

-- a pass stands behind k slots, at a place and with what it has written, where what is left to note is what was to be noted
pub record Standing (places plan : List ℕ) (many : ℕ) (book : List ℕ) (k at : ℕ) (written : List ℕ) : Type 0 where
  pub within : k ≤ many
  pub left : noted_slots places (k + 1) (slots_from plan at (many - k)) written ≡ noted_slots places 1 (slots_from plan 2 many) book

-- what is to be noted of one slot more
one-noted : (places plan : List ℕ) (k at more : ℕ) (written : List ℕ)
    → noted_slots places k (slots_from plan at (suc more)) written ≡ noted_slots places (k + 1) (slots_from plan (next_at plan at) more) (noted_slot places k (senders_at plan at) written)
unfolding slots_from noted_slots
one-noted places plan k at more written = refl

none_left : (places plan : List ℕ) (k at : ℕ) (written : List ℕ) → noted_slots places k (slots_from plan at 0) written ≡ written
unfolding slots_from noted_slots
none_left places plan k at written = refl

module _ (places plan : List ℕ) (many : ℕ) (book : List ℕ) where
  -- before the first slot
  pub at_first : (at : ℕ) → at ≡ 2 → Standing places plan many book 0 at book
  at_first at is = record {
    within = omega arith;
    left = ap₂ (λ (n m : ℕ). noted_slots places 1 (slots_from plan n m) book) is (omega arith);
  }

  module _ (k at : ℕ) (written : List ℕ) (stands : Standing places plan many book k at written) where
    -- behind one slot more
    pub onward : k < many → (at' : ℕ) → at' ≡ (slot_at plan at).next
        → (written' : List ℕ) → written' ≡ noted_slot places (k + 1) (senders_at plan at) written
        → Standing places plan many book (k + 1) at' written'
    onward less at' is written' noted = record { within = omega arith; left = left' ∙ stands.left }
      where
        more : ℕ
        more = many - (k + 1)

        count : many - k ≡ suc more
        count = omega arith

        left' : noted_slots places (k + 1 + 1) (slots_from plan at' more) written' ≡ noted_slots places (k + 1) (slots_from plan at (many - k)) written
        left' =
            ap₂ (λ (slots : Slots) (b : List ℕ). noted_slots places (k + 1 + 1) slots b) (ap (λ (n : ℕ). slots_from plan n more) is ∙ sym (behind-alike plan at more)) noted
            ∙ sym (one-noted places plan (k + 1) at more written)
            ∙ ap (λ (n : ℕ). noted_slots places (k + 1) (slots_from plan at n) written) (sym count)

    -- behind the last slot all is written
    pub at-end : many ≤ k → written ≡ noted_slots places 1 (slots_from plan 2 many) book
    at-end over =
        let none : many - k ≡ 0 = omega arith in
        sym (ap (λ (n : ℕ). noted_slots places (k + 1) (slots_from plan at n) written) none ∙ none_left places plan (k + 1) at written)
        ∙ stands.left
