-- The slots that the bytes of a plan stand for: read one behind the other they are those that were written, by recursion on the slots.
use mathlib.Core.Path.{◌≡◌, refl, sym, ap, ap₂, ◌∙◌}
use mathlib.Core.List.{List, [], ◌∷◌, ◌++◌, append_assoc}
use Prim.Native.Nat.{ℕ, ◌+◌}
use native.Mathlib.Omega.{arith}
use lib.ListN.{length, get_or, take, drop, length-append}
use lib.Seq.{take_at, get_or_at, drop-append-add}
use Rattle.meaning.specs.Plan.{slot_bytes, plan_bytes, two_bytes, senders_at, slots_from, front}

-- slots that stand behind xs
slots-behind : (slots : List (List ℕ)) (xs ys : List ℕ) (at : ℕ) → at ≡ length xs → slots_from (xs ++ (slot_bytes slots ++ ys)) at (length slots) ≡ slots
unfolding slots_from slot_bytes
slots-behind [] xs ys at e = refl
slots-behind (x ∷ slots) xs ys at e =
    ap₂ ◌∷◌ senders
    (ap₂ (λ (p : List ℕ) (k : ℕ). slots_from p (at + 1 + k) (length slots)) regroup many
    ∙ slots-behind slots (xs ++ (length x ∷ x)) ys (at + 1 + length x) (omega (arith, e, length-append xs (length x ∷ x))))
  where
    plan : List ℕ
    plan = xs ++ (slot_bytes (x ∷ slots) ++ ys)

    many : get_or plan at 0 ≡ length x
    many = get_or_at xs (length x) ((x ++ slot_bytes slots) ++ ys) 0 at (sym e)

    behind : drop (at + 1) plan ≡ x ++ (slot_bytes slots ++ ys)
    behind =
        ap (λ (k : ℕ). drop (k + 1) plan) e ∙ drop-append-add xs (length x ∷ ((x ++ slot_bytes slots) ++ ys)) 1 ∙ append_assoc x (slot_bytes slots) ys

    senders : senders_at plan at ≡ x
    senders = ap₂ take many behind ∙ take_at x (slot_bytes slots ++ ys) (length x) refl

    regroup : plan ≡ (xs ++ (length x ∷ x)) ++ (slot_bytes slots ++ ys)
    regroup =
        ap (λ (l : List ℕ). xs ++ (length x ∷ l)) (append_assoc x (slot_bytes slots) ys) ∙ sym (append_assoc xs (length x ∷ x) (slot_bytes slots ++ ys))

-- a plan in a buffer is read as its slots
pub slots_read : (slots : List (List ℕ)) (d : List ℕ) → slots_from (front d (plan_bytes slots)) 2 (length slots) ≡ slots
slots_read slots d = slots-behind slots (two_bytes (length slots)) (drop (length (plan_bytes slots)) d) 2 refl

-- so no two plans have the same bytes
pub plan-same : (xs ys : List (List ℕ)) → plan_bytes xs ≡ plan_bytes ys → xs ≡ ys
plan-same xs ys e =
    let high = ap (λ (l : List ℕ). get_or l 0 0) e in
    let low = ap (λ (l : List ℕ). get_or l 1 0) e in
    let many : length xs ≡ length ys = omega (arith, high, low) in
    sym (slots_read xs []) ∙ ap₂ (λ (l : List ℕ) (k : ℕ). slots_from (front [] l) 2 k) e many ∙ slots_read ys []
