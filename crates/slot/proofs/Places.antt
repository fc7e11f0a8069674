-- Where a slot stands: within the plan the place is as it is, and past the end it is the end; so the part that a caller lends from the middle of the
-- plan is the slot, and a plan that ends early has the senders that are there.
use mathlib.Core.Path.{◌≡◌, sym, ap, ap₂, ◌∙◌}
use mathlib.Core.List.{List}
use Prim.Native.Nat.{ℕ, ◌+◌, ◌-◌, ◌≤◌, ◌<◌, min}
use native.Mathlib.Omega.{arith}
use lib.ListN.{length, get_or, take, drop, length-drop, drop_of_length-le, get_or-eq_default}
use lib.Seq.{take_all, take-nil}
use Rattle.meaning.specs.Plan.{next_at, senders_at}
use Rattle.slot.specs.declared.SlotAt.{SlotAt}
use Rattle.slot.specs.Place.{slot_at}

abbrev standing : List ℕ → ℕ → SlotAt
standing plan at = record { first = at + 1; many = get_or plan at 0; next = next_at plan at }

-- a place up to the end of the plan reads as the meaning says
pub slot-within : (plan : List ℕ) (at : ℕ) → at ≤ length plan → slot_at plan at ≡ standing plan at
unfolding slot_at
slot-within plan at h = let least : min at (length plan) ≡ at = omega arith in ap (standing plan) least

-- a place past the end reads as the end
pub slot-past : (plan : List ℕ) (at : ℕ) → length plan ≤ at → record { first = length plan + 1; many = 0; next = length plan + 1 } ≡ slot_at plan at
unfolding slot_at
slot-past plan at h =
    let least : min at (length plan) ≡ length plan = omega arith in
    let none : get_or plan (length plan) 0 ≡ 0 = get_or-eq_default plan 0 (omega arith) in
    let next : length plan + 1 ≡ next_at plan (length plan) = omega arith in
    ap₂ (λ (many next : ℕ). record { first = length plan + 1; many = many; next = next }) (sym none) next ∙ ap (standing plan) (sym least)

-- the part that is lent from the middle of the plan
abbrev pub lent : List ℕ → SlotAt → List ℕ
lent plan at = take (at.next - at.first) (drop at.first plan)

-- the slot as the code has read it
module _ (plan : List ℕ) (at : ℕ) (here : SlotAt) (is : here ≡ slot_at plan at) (inside : at ≤ length plan) where
  first_read : here.first ≡ at + 1
  first_read = ap (λ (x : SlotAt). x.first) (is ∙ slot-within plan at inside)

  pub next-read : here.next ≡ next_at plan at
  next-read = ap (λ (x : SlotAt). x.next) (is ∙ slot-within plan at inside)

  pub part-read : here.first ≤ here.next
  part-read = omega (arith, first_read, next-read)

  pub slot_read : lent plan here ≡ senders_at plan at
  slot_read =
      let many : here.next - here.first ≡ get_or plan at 0 = omega (arith, first_read, next-read) in
      ap₂ (λ (m from : ℕ). take m (drop from plan)) many first_read

-- past the end of a plan nobody sends
pub senders-past : (plan : List ℕ) (at : ℕ) → length plan ≤ at → take (length plan - length plan) (drop (length plan) plan) ≡ senders_at plan at
senders-past plan at h =
    ap (take (length plan - length plan)) (drop_of_length-le plan {i = length plan} (omega arith))
    ∙ take-nil (length plan - length plan)
    ∙ sym (ap (take (get_or plan at 0)) (drop_of_length-le plan {i = at + 1} (omega arith)) ∙ take-nil (get_or plan at 0))

-- a slot that the plan cuts short has the senders that are there
pub senders-short : (plan : List ℕ) (at : ℕ) → length plan < at + 1 + get_or plan at 0 → take (length plan - (at + 1)) (drop (at + 1) plan) ≡ senders_at plan at
senders-short plan at h =
    let long = length-drop (at + 1) plan in
    take_all (length plan - (at + 1)) (drop (at + 1) plan) (omega (arith, long))
    ∙ sym (take_all (get_or plan at 0) (drop (at + 1) plan) (omega (arith, long)))

-- any other stands there whole
pub senders-whole : (plan : List ℕ) (at : ℕ) → take (at + 1 + get_or plan at 0 - (at + 1)) (drop (at + 1) plan) ≡ senders_at plan at
senders-whole plan at =
    let many : at + 1 + get_or plan at 0 - (at + 1) ≡ get_or plan at 0 = omega arith in
    ap (λ (k : ℕ). take k (drop (at + 1) plan)) many
