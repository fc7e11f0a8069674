-- What slots that run do: every legal slot brings what each of its senders sends one sending nearer. The sendings that are left are what is held, weighed by
-- level, or of merged readings one by one.
use mathlib.Core.Path.{◌≡◌}
use mathlib.Core.Bool.{true}
use mathlib.Core.List.{List, [], ◌∷◌}
use Prim.Native.Nat.{ℕ, zero, suc, ◌+◌, ◌*◌, ◌≤◌, ◌<◌}
use native.Mathlib.Nat.{not-suc-le-zero, le_of_suc-le-suc, le_refl, mul-le-mul}
use native.Mathlib.Omega.{arith}
use lib.ListN.{length, get_or}
use borrow.Author.Tests.{ltb-true, lt-ltb}
use Rattle.meaning.specs.declared.Mode.{Mode}
use Rattle.meaning.specs.Words.{places}
use Rattle.meaning.specs.Yard.{is_probe}
use Rattle.meaning.specs.Sheet.{probe_count, parent_of}
use Rattle.meaning.specs.Rounds.{moved}
use Rattle.meaning.specs.Answer.{is_accepted, sheet_test}
use Rattle.meaning.specs.Legal.{Legal, may_of, goes_of}
use Rattle.laws.proofs.Turns.{in_sum}
use Rattle.laws.proofs.Walk.{probe-least, probe-most}
use Rattle.laws.proofs.Moving.{weigh, Rising, Each, Sender, weigh-moved, weigh-up}
use Rattle.laws.proofs.Grounds.{few-probes}
use Rattle.laws.proofs.Modes.{may-holds, weight_of, goes-node, weight-up, weight-least}

-- each of a list, by place
pub each_at : (P : ℕ → Type 0) (xs : List ℕ) → Each P xs → (i : ℕ) → i < length xs → P (get_or xs i 0)
unfolding Each
each_at P [] all i h = absurd (not-suc-le-zero h)
each_at P (x ∷ xs) all zero h = all.0
each_at P (x ∷ xs) all (suc i) h = each_at P xs all.1 i (le_of_suc-le-suc h)

pub at_each : (P : ℕ → Type 0) (xs : List ℕ) → ((i : ℕ) → i < length xs → P (get_or xs i 0)) → Each P xs
unfolding Each
at_each P [] all = tt
at_each P (x ∷ xs) all = (all 0 (omega arith), at_each P xs (λ i h. all (suc i) (omega arith)))

-- rising numbers, by place
above_at : (lo : ℕ) (xs : List ℕ) → Rising lo xs → (i : ℕ) → i < length xs → lo < get_or xs i 0
unfolding Rising
above_at lo [] rising i h = absurd (not-suc-le-zero h)
above_at lo (x ∷ xs) rising zero h = rising.0
above_at lo (x ∷ xs) rising (suc i) h = omega (arith, rising.0, above_at x xs rising.1 i (le_of_suc-le-suc h))

pub rising-at : (lo : ℕ) (xs : List ℕ) → Rising lo xs → (i j : ℕ) → i < j → j < length xs → get_or xs i 0 < get_or xs j 0
unfolding Rising
rising-at lo [] rising i j h l = absurd (not-suc-le-zero l)
rising-at lo (x ∷ xs) rising i zero h l = absurd (not-suc-le-zero h)
rising-at lo (x ∷ xs) rising zero (suc j) h l = above_at x xs rising.1 j (le_of_suc-le-suc l)
rising-at lo (x ∷ xs) rising (suc i) (suc j) h l = rising-at x xs rising.1 i j (le_of_suc-le-suc h) (le_of_suc-le-suc l)

pub at-rising : (lo : ℕ) (xs : List ℕ) → ((i : ℕ) → i < length xs → lo < get_or xs i 0)
    → ((i j : ℕ) → i < j → j < length xs → get_or xs i 0 < get_or xs j 0) → Rising lo xs
unfolding Rising
at-rising lo [] low rising = tt
at-rising lo (x ∷ xs) low rising = (
  low 0 (omega arith),
  at-rising x xs (λ i h. rising 0 (suc i) (omega arith) (omega arith)) (λ i j h l. rising (suc i) (suc j) (omega arith) (omega arith)),
)

module _ (mode : Mode) (s : List ℕ) (ok : is_accepted (sheet_test s) ≡ true) where
  -- the sendings that are left to make
  abbrev pub left : List ℕ → ℕ
  left held = weigh (weight_of mode s) held

  -- with none left no probe holds a packet
  pub none_left : (held : List ℕ) → left held ≡ 0 → (v : ℕ) → is_probe (probe_count s) v ≡ true → get_or held v 0 ≡ 0
  none_left held e v h =
      let last = probe-most (probe_count s) v h in
      let part = in_sum places (λ k. get_or held k 0 * weight_of mode s k) v (omega (arith, few-probes s ok)) in
      let least : get_or held v 0 * 1 ≤ get_or held v 0 * weight_of mode s v = mul-le-mul (le_refl (get_or held v 0)) (weight-least s ok mode v h) in
      omega (arith, part, least)

  module _ (held slot : List ℕ) (legal : Legal s (may_of mode s held) slot) where
    pub legal-rising : Rising 1 slot
    legal-rising =
        at-rising 1 slot (λ i h. probe-least (probe_count s) (get_or slot i 0) (legal.probes i h)) legal.rising

    pub legal-senders : Each (Sender (goes_of mode s) held) slot
    legal-senders =
        at_each (Sender (goes_of mode s) held) slot
        (λ i h.
        let has = may-holds mode (probe_count s) (parent_of s) held (get_or slot i 0) (lt-ltb 0 (get_or (may_of mode s held) (get_or slot i 0) 0) (legal.holding i h)) in (
          ltb-true 0 (get_or held (get_or slot i 0) 0) has,
          omega (arith, probe-most (probe_count s) (get_or slot i 0) (legal.probes i h), few-probes s ok),
          goes-node s ok mode (get_or slot i 0) (legal.probes i h),
        ))

    -- each sender's packet or reading comes one sending nearer
    pub legal-left : length held ≡ places → left (moved (goes_of mode s) slot held) + length slot ≡ left held
    legal-left long =
        omega (
          arith,
          weigh-moved (weight_of mode s) (goes_of mode s) 1 slot held long legal-rising legal-senders,
          weigh-up (weight_of mode s) (goes_of mode s) slot
              (at_each (λ v. weight_of mode s v ≡ suc (weight_of mode s (goes_of mode s v))) slot (λ i h. weight-up s ok mode (get_or slot i 0) (legal.probes i h))),
        )
