-- A slot that the judge passes: its senders are probes in rising number, each holds a packet, and no two conflict, read off the tests that found
-- nothing; and its turn: it passes and its packets move, or it is refused and nothing moves.
use mathlib.Core.Path.{◌≡◌, refl, ap, subst}
use mathlib.Core.Bool.{Bool, true, false, cond, ◌&&◌}
use mathlib.Core.List.{List, [], ◌∷◌}
use mathlib.Core.Logic.{◌⊎◌, inl, inr}
use Prim.Native.Nat.{ℕ, suc, ◌+◌, ◌≤◌, ◌<◌}
use native.Mathlib.Numerals.{add-one}
use native.Mathlib.Omega.{arith}
use lib.Dec.{ltb}
use lib.ListN.{length, get_or}
use borrow.Author.Tests.{ltb-true, ltb-false, leb-false, not-false, lt-ltb}
use Rattle.meaning.specs.declared.Mode.{Mode}
use Rattle.meaning.specs.declared.Outcome.{Outcome}
use Rattle.meaning.specs.Words.{places}
use Rattle.meaning.specs.Yard.{is_probe}
use Rattle.meaning.specs.Plan.{next_at, senders_at}
use Rattle.meaning.specs.Rounds.{moved, may_in, goes_in}
use Rattle.meaning.specs.Answer.{is_accepted, given, ◌then◌}
use Rattle.meaning.specs.Judge.{slot_test, Judging, slot_judged}
use Rattle.laws.proofs.Turns.{some-none}
use Rattle.laws.proofs.Walk.{probe-least, probe-most}
use Rattle.laws.proofs.Moving.{Rising, Each, Sender}
use Rattle.laws.proofs.Running.{at_each}
use Rattle.laws.proofs.Modes.{may-holds}
use Rattle.laws.proofs.Accepted.{then-accepted, given-accepted}

rising-read : (lo : ℕ) (l : List ℕ) → (0 < length l → lo < get_or l 0 0) → ((i : ℕ) → suc i < length l → get_or l i 0 < get_or l (suc i) 0) → Rising lo l
unfolding Rising
rising-read lo [] first next = tt
rising-read lo (x ∷ l) first next = (first (omega arith), rising-read x l (λ h. next 0 (omega arith)) (λ i hi. next (suc i) (omega arith)))

-- none conflicts with a later one
unfoldable pub Apart : (ℕ → ℕ → Bool) → List ℕ → Type 0
Apart relation [] = Unit {0}
Apart relation (v ∷ slot) = Each (λ u. relation v u ≡ false) slot × Apart relation slot

pub apart-read : (relation : ℕ → ℕ → Bool) (l : List ℕ)
    → ((i j : ℕ) → i < j → j < length l → relation (get_or l i 0) (get_or l j 0) ≡ false) → Apart relation l
unfolding Apart
apart-read relation [] h = tt
apart-read relation (x ∷ l) h = (
  at_each (λ u. relation x u ≡ false) l (λ j hj. h 0 (suc j) (omega arith) (omega arith)),
  apart-read relation l (λ i j below hj. h (suc i) (suc j) (omega arith) (omega arith)),
)

both_false : (a b : Bool) → (a && b) ≡ false → a ≡ true → b ≡ false
both_false true b e h = e
both_false false b e h = absurd (subst (λ (t : Bool). cond t ⊥ Unit) h tt)

-- what the tests of a slot say where they find nothing, sender by sender
pub record Told (p : ℕ) (relation : ℕ → ℕ → Bool) (held slot : List ℕ) : Type 0 where
  pub probes : (i : ℕ) → i < length slot → is_probe p (get_or slot i 0) ≡ true
  pub rises : (i : ℕ) → i + 1 < length slot → get_or slot i 0 < get_or slot (i + 1) 0
  pub holding : (i : ℕ) → i < length slot → 0 < get_or held (get_or slot i 0) 0
  pub apart : (i j : ℕ) → i < j → j < length slot → relation (get_or slot i 0) (get_or slot j 0) ≡ false

pub told : (p : ℕ) (relation : ℕ → ℕ → Bool) (held : List ℕ) (place : ℕ) (slot : List ℕ) → is_accepted (slot_test p relation held place slot) ≡ true
    → Told p relation held slot
unfolding slot_test
told p relation held place slot h =
    let first = then-accepted _ _ h in
    let second = then-accepted _ _ first.1 in
    let third = then-accepted _ _ second.1 in
    record {
      probes = λ i hi. not-false _ (some-none _ _ (given-accepted 12 place _ refl first.0) i hi);
      rises = λ i hi. leb-false _ _ (some-none _ _ (given-accepted 13 place _ refl second.0) i (omega arith));
      holding = λ i hi. ltb-true 0 (get_or held (get_or slot i 0) 0) (not-false _ (some-none _ _ (given-accepted 14 place _ refl third.0) i hi));
      apart =
          λ i j below hj.
          both_false (ltb i j) _ (some-none _ _ (some-none _ _ (given-accepted 15 place _ refl third.1) i (omega arith)) j hj) (lt-ltb i j below);
    }

-- the same, of the list of its senders, in a yard whose parents are nodes
pub record Passed (p : ℕ) (parent : ℕ → ℕ) (relation : ℕ → ℕ → Bool) (held slot : List ℕ) : Type 0 where
  pub rising : Rising 1 slot
  pub probes : Each (λ v. is_probe p v ≡ true) slot
  pub sending : Each (Sender parent held) slot
  pub apart : Apart relation slot

pub passed : (mode : Mode) (p : ℕ) (parent : ℕ → ℕ) (relation : ℕ → ℕ → Bool) (held slot : List ℕ) (place : ℕ) → p ≤ 63
    → ((v : ℕ) → is_probe p v ≡ true → goes_in mode parent v < places) → is_accepted (slot_test p relation (may_in mode p parent held) place slot) ≡ true
    → Passed p (goes_in mode parent) relation held slot
passed mode p parent relation held slot place few inside h =
    let is = told p relation (may_in mode p parent held) place slot h in
    record {
      rising =
          rising-read 1 slot (λ hi. omega (arith, probe-least p (get_or slot 0 0) (is.probes 0 hi)))
          (λ i hi. subst (λ (j : ℕ). get_or slot i 0 < get_or slot j 0) (add-one i) (is.rises i (omega arith)));
      probes = at_each (λ v. is_probe p v ≡ true) slot is.probes;
      sending =
          at_each (Sender (goes_in mode parent) held) slot
          (λ i hi. (
            ltb-true 0 (get_or held (get_or slot i 0) 0)
                (may-holds mode p parent held (get_or slot i 0) (lt-ltb 0 (get_or (may_in mode p parent held) (get_or slot i 0) 0) (is.holding i hi))),
            omega (arith, probe-most p (get_or slot i 0) (is.probes i hi)),
            inside (get_or slot i 0) (is.probes i hi),
          ));
      apart = apart-read relation slot is.apart;
    }

-- the turn of one slot
module _ (mode : Mode) (p : ℕ) (parent : ℕ → ℕ) (relation : ℕ → ℕ → Bool) (plan : List ℕ) (place : ℕ) (now : Judging) where
  abbrev slot : List ℕ
  slot = senders_at plan now.at

  abbrev test : Outcome
  test = slot_test p relation (may_in mode p parent now.held) place slot

  abbrev answer : Outcome
  answer = given 11 place (ltb (length plan) (next_at plan now.at)) then test

  abbrev after : Judging
  after = slot_judged mode p parent relation plan place now

  -- it passes: it ends within the plan, its tests find nothing, and its packets move
  pub record Passes : Type 0 where
    pub within : next_at plan now.at ≤ length plan
    pub tested : is_accepted test ≡ true
    pub next : after.at ≡ next_at plan now.at
    pub moves : after.held ≡ moved (goes_in mode parent) slot now.held

  -- it is refused: nothing moves
  pub record Refused : Type 0 where
    pub refused : is_accepted after.outcome ≡ false
    pub stays : after.at ≡ now.at
    pub rests : after.held ≡ now.held

  pub turn : Passes ⊎ Refused
  unfolding slot_judged
  turn = go (is_accepted answer) refl
    where
      ways : Bool → Judging
      ways b =
          cond b (record { outcome = answer; at = next_at plan now.at; held = moved (goes_in mode parent) slot now.held })
          (record { outcome = answer; at = now.at; held = now.held })

      go : (b : Bool) → is_accepted answer ≡ b → Passes ⊎ Refused
      go true e =
          let both = then-accepted _ _ e in
          inl
          (record {
            within = ltb-false (length plan) (next_at plan now.at) (given-accepted 11 place _ refl both.0);
            tested = both.1;
            next = ap (λ (b : Bool). (ways b).at) e;
            moves = ap (λ (b : Bool). (ways b).held) e;
          })
      go false e =
          inr
          (record {
            refused = subst (λ (b : Bool). is_accepted (ways b).outcome ≡ false) (mathlib.Core.Path.sym e) e;
            stays = ap (λ (b : Bool). (ways b).at) e;
            rests = ap (λ (b : Bool). (ways b).held) e;
          })
