-- Turn after turn: what a turn writes goes behind what stands there already.
use mathlib.Core.Path.{◌≡◌, refl, sym, ap, ap₂, ◌∙◌, subst, subst₂}
use mathlib.Core.Bool.{Bool, true, false, cond}
use mathlib.Core.List.{List, [], ◌++◌, append-nil, append_assoc}
use Prim.Native.Nat.{ℕ, zero, suc, ◌+◌, ◌-◌, ◌≤◌}
use native.Mathlib.Omega.{arith}
use lib.Dec.{eqb}
use lib.ListN.{length, take, drop, length-append, length-drop, drop_of_length-le}
use borrow.Rule.Slice.PartMut.{put_mid}
use lib.Seq.{take_all, take_at, drop_at, drop-drop}
use Rattle.plan.specs.declared.Way as code
use Rattle.meaning.specs.Words.{for_each, by_node}
use Rattle.meaning.specs.Plan.{front, slot_bytes}
use Rattle.meaning.specs.Rounds.{Progress, Way, holds, held_after, recorded, turn, round, rounds, outside}
use Rattle.laws.proofs.Turns.{for_each-one, for_each-stays}
use Rattle.laws.proofs.Lists.{length_front}
use Rattle.laws.proofs.Exact.{slot-bytes-append}
use Rattle.laws.proofs.Modes.{may-holds}
use Rattle.chosen.specs.TurnSlot.{turn_slots, turn_by}
use Rattle.plan.specs.ColourTurn.{Ready, Turned}
use Rattle.plan.specs.TurnByTurn.{goes_by, way_by, from, round_by, Going}
use Rattle.plan.proofs.ColourTurn.{ready-next, turn-bytes, turn-count, turn-fewer}

-- what is written into the part behind `at` stands behind what was written before
pub front-front : (d xs ys : List ℕ) (at : ℕ) → at ≡ length xs → take at (front d xs) ++ front (drop at (front d xs)) ys ≡ front d (xs ++ ys)
front-front d xs ys at e =
    ap₂ (λ (a b : List ℕ). a ++ front b ys) (take_at xs (drop (length xs) d) at (sym e)) (drop_at xs (drop (length xs) d) at (sym e))
    ∙ sym (append_assoc xs ys (drop (length ys) (drop (length xs) d)))
    ∙ ap (λ (l : List ℕ). (xs ++ ys) ++ l) (drop-drop (length ys) (length xs) d ∙ ap (λ (k : ℕ). drop k d) (sym (length-append xs ys)))

-- the buffer keeps its length
pub going-long : {p : ℕ} {parent : ℕ → ℕ} {now : Progress} {held rest₀ rest : List ℕ} {at slots : ℕ} → Going p parent now held rest₀ rest at slots
    → length rest ≡ length rest₀
going-long {now} {rest₀} going = ap length going.wrote ∙ length_front rest₀ (slot_bytes now.slots) (omega (arith, going.counted, going.within))

-- the part from `at` on, as the code lends it
pub part-from : (l : List ℕ) (at : ℕ) → take (length l - at) (drop at l) ≡ drop at l
part-from l at = take_all (length l - at) (drop at l) (rw (length-drop at l) (omega arith))

-- the buffer after such a part was changed
pub put-behind : (l part : List ℕ) (at : ℕ) → at ≤ length l → put_mid at (length l - at) l part ≡ take at l ++ part
put-behind l part at h =
    let none : drop (length l - at) (drop at l) ≡ [] = drop_of_length-le (drop at l) {i = length l - at} (rw (length-drop at l) (omega arith)) in
    ap (λ (r : List ℕ). take at l ++ (part ++ r)) none ∙ ap (λ (r : List ℕ). take at l ++ r) (append-nil part)

module _ (by : code.Way) where
  abbrev way : Way
  way = way_by by

  abbrev parent : ℕ → ℕ
  parent = goes_by by

  -- who may send holds something
  has : (held : List ℕ) (v : ℕ) → holds (way.may held) v ≡ true → holds held v ≡ true
  has = may-holds by.mode by.probes (by_node by.parents.now)

  -- the first k turns of a round
  unfoldable pub turns : ℕ → List ℕ → Progress
  turns k held = for_each k (λ s now. recorded parent (turn way (s + 1) now.held) now) (from held)

  pub turns-all : (held : List ℕ) → turns by.colours held ≡ round_by by held
  unfolding turns round
  turns-all held = refl

  -- what the turn that follows them makes
  abbrev next_turn : ℕ → List ℕ → List (List ℕ)
  next_turn k held = turn_by by.probes by.table.now by.own.now (k + 1) (way.may (turns k held).held)

  turns_next : (k : ℕ) (held : List ℕ) → turns (k + 1) held
      ≡ record { held = held_after parent (turns k held).held (next_turn k held); slots = (turns k held).slots ++ next_turn k held }
  unfolding turns turn_slots recorded
  turns_next k held = for_each-one k (λ s now. recorded parent (turn way (s + 1) now.held) now) (from held)

  pub going_start : (held rest : List ℕ) → Ready by.probes parent held (length rest) → Going by.probes parent (turns 0 held) held rest rest 0 0
  unfolding turns for_each slot_bytes
  going_start held rest ready =
      record {
        holding = refl;
        counted = refl;
        made = refl;
        wrote = refl;
        within = omega arith;
        fewer = omega arith;
        ready = subst (λ (r : ℕ). Ready by.probes parent held r) (sym (native.Mathlib.Nat.sub-zero (length rest))) ready;
      }

  -- one more turn, whose slot is written into the part from `at` on
  pub going_next : (k : ℕ) (held₀ held rest₀ rest : List ℕ) (at slots : ℕ) → Going by.probes parent (turns k held₀) held rest₀ rest at slots
      → (held' part : List ℕ) (bytes : ℕ)
      → Turned parent (turn_by by.probes by.table.now by.own.now (k + 1) (way.may held)) held held' (take (length rest - at) (drop at rest)) part bytes
      → (more : ℕ) → more ≡ cond (eqb bytes 0) 0 1
      → Going by.probes parent (turns (k + 1) held₀) held' rest₀ (put_mid at (length rest - at) rest part) (at + bytes) (slots + more)
  going_next k held₀ held rest₀ rest at slots now held' part bytes lent more count =
      subst₂ (λ (then : Progress) (r : List ℕ). Going by.probes parent then held' rest₀ r (at + bytes) (slots + more)) (sym (turns_next k held₀))
      (sym (put-behind rest part at (omega (arith, going-long now, now.within))))
      (record {
        holding = turned.moves ∙ ap (λ (h : List ℕ). held_after parent h (makes h)) now.holding;
        counted =
            ap₂ ◌+◌ now.counted (turned.counted ∙ ap (λ (h : List ℕ). length (slot_bytes (makes h))) now.holding)
            ∙ sym (length-append (slot_bytes done) (slot_bytes (makes before)))
            ∙ ap length (sym (slot-bytes-append done (makes before)));
        made =
            ap₂ ◌+◌ now.made (one_more ∙ ap (λ (h : List ℕ). length (makes h)) now.holding)
            ∙ sym (length-append done (makes before));
        wrote =
            ap (λ (l : List ℕ). take at rest ++ l) (turned.wrote ∙ ap (λ (h : List ℕ). front (drop at rest) (slot_bytes (makes h))) now.holding)
            ∙ ap (λ (l : List ℕ). take at l ++ front (drop at l) (slot_bytes (makes before))) now.wrote
            ∙ front-front rest₀ (slot_bytes done) (slot_bytes (makes before)) at now.counted
            ∙ ap (front rest₀) (sym (slot-bytes-append done (makes before)));
        within =
            omega (
              arith,
              now.within,
              turned.counted,
              turn-bytes by.probes parent held (length rest₀ - at) now.ready (way.may held) (has held) way.relation (by_node by.own.now) (k + 1),
            );
        fewer =
            omega (
              arith,
              now.fewer,
              turned.counted,
              one_more,
              turn-fewer by.probes parent held (length rest₀ - at) now.ready (way.may held) (has held) way.relation (by_node by.own.now) (k + 1),
            );
        ready =
            subst₂ (λ (h : List ℕ) (r : ℕ). Ready by.probes parent h r) (sym turned.moves) room
            (ready-next by.probes parent held (length rest₀ - at) now.ready (way.may held) (has held) way.relation (by_node by.own.now) (k + 1));
      })
    where
      before : List ℕ
      before = (turns k held₀).held

      done : List (List ℕ)
      done = (turns k held₀).slots

      makes : List ℕ → List (List ℕ)
      makes h = turn_by by.probes by.table.now by.own.now (k + 1) (way.may h)

      turned : Turned parent (makes held) held held' (drop at rest) part bytes
      turned = subst (λ (from' : List ℕ). Turned parent (makes held) held held' from' part bytes) (part-from rest at) lent

      one_more : more ≡ length (makes held)
      one_more =
          count ∙ ap (λ (b : ℕ). cond (eqb b 0) 0 1) turned.counted
          ∙ sym (turn-count by.probes parent held (length rest₀ - at) now.ready (way.may held) (has held) way.relation (by_node by.own.now) (k + 1))

      room : (length rest₀ - at) - length (slot_bytes (makes held)) ≡ length rest₀ - (at + bytes)
      room = omega (arith, turned.counted)

-- a round only adds to the slots that are there
module _ (way : Way) where
  next : ℕ → Progress → Progress
  next s now = recorded way.goes (turn way (s + 1) now.held) now

  -- the same progress with these slots in front
  abbrev behind : List (List ℕ) → Progress → Progress
  behind slots now = record { held = now.held; slots = slots ++ now.slots }

  turn-behind : (s : ℕ) (slots : List (List ℕ)) (now : Progress) → next s (behind slots now) ≡ behind slots (next s now)
  unfolding next recorded
  turn-behind s slots now =
      λ i. record { held = held_after way.goes now.held made; slots = append_assoc slots now.slots made i }
    where
      made : List (List ℕ)
      made = turn way (s + 1) now.held

  turns-behind : (k : ℕ) (slots : List (List ℕ)) (now : Progress) → for_each k next (behind slots now) ≡ behind slots (for_each k next now)
  unfolding for_each
  turns-behind zero slots now = refl
  turns-behind (suc k) slots now = ap (next k) (turns-behind k slots now) ∙ turn-behind k slots (for_each k next now)

  pub round-behind : (now : Progress) → round way now ≡ behind now.slots (round way (from now.held))
  unfolding round next
  round-behind now =
      ap (for_each way.colours next) (λ i. record { held = now.held; slots = sym (append-nil now.slots) i })
      ∙ turns-behind way.colours now.slots (from now.held)

-- progress behind progress
pub going-behind : (p : ℕ) (parent : ℕ → ℕ) (now then : Progress) (held rest₀ rest : List ℕ) (at slots : ℕ) → Going p parent now held rest₀ rest at slots
    → (held' part : List ℕ) (bytes more : ℕ) → Going p parent then held' (drop at rest) part bytes more
    → Going p parent (record { held = then.held; slots = now.slots ++ then.slots }) held' rest₀ (take at rest ++ part) (at + bytes) (slots + more)
going-behind p parent now then held rest₀ rest at slots first held' part bytes more second =
    record {
      holding = second.holding;
      counted =
          ap₂ ◌+◌ first.counted second.counted ∙ sym (length-append (slot_bytes now.slots) (slot_bytes then.slots))
          ∙ ap length (sym (slot-bytes-append now.slots then.slots));
      made = ap₂ ◌+◌ first.made second.made ∙ sym (length-append now.slots then.slots);
      wrote =
          ap (λ (l : List ℕ). take at rest ++ l) second.wrote
          ∙ ap (λ (l : List ℕ). take at l ++ front (drop at l) (slot_bytes then.slots)) first.wrote
          ∙ front-front rest₀ (slot_bytes now.slots) (slot_bytes then.slots) at first.counted
          ∙ ap (front rest₀) (sym (slot-bytes-append now.slots then.slots));
      within = omega (arith, first.within, second.within, left);
      fewer = omega (arith, first.fewer, second.fewer);
      ready = subst (λ (r : ℕ). Ready p parent held' r) (omega (arith, left)) second.ready;
    }
  where
    left : length (drop at rest) ≡ length rest₀ - at
    left = length-drop at rest ∙ ap (λ (n : ℕ). n - at) (going-long first)

-- rounds, while anything is outside the gateway
module _ (by : code.Way) where
  abbrev road : Way
  road = way_by by

  step : ℕ → Progress → Progress
  step _ now = cond (outside by.probes now.held) (round road now) now

  pub rounds-start : (held rest : List ℕ) → Ready by.probes road.goes held (length rest)
      → Going by.probes road.goes (rounds road 0 (from held)) held rest rest 0 0
  unfolding rounds for_each turns
  rounds-start held rest ready = going_start by held rest ready

  -- with nothing outside, the rounds that are left change nothing
  pub rounds-stop : (r n : ℕ) (held : List ℕ) → r ≤ n → outside by.probes (rounds road r (from held)).held ≡ false
      → rounds road n (from held) ≡ rounds road r (from held)
  unfolding rounds step
  rounds-stop r n held h e =
      for_each-stays r n step (from held) (for_each r step (from held)) h refl
      (λ k _ _. ap (λ (b : Bool). cond b (round road (for_each r step (from held))) (for_each r step (from held))) e)

  rounds-next : (r : ℕ) (held : List ℕ) → outside by.probes (rounds road r (from held)).held ≡ true
      → rounds road (r + 1) (from held) ≡ round road (rounds road r (from held))
  unfolding rounds step
  rounds-next r held e =
      for_each-one r step (from held) ∙ ap (λ (b : Bool). cond b (round road (for_each r step (from held))) (for_each r step (from held))) e

  pub going-round : (r : ℕ) (held₀ held rest₀ rest : List ℕ) (at slots : ℕ)
      → Going by.probes road.goes (rounds road r (from held₀)) held rest₀ rest at slots
      → outside by.probes held ≡ true → (held' part : List ℕ) (bytes more : ℕ)
      → Going by.probes road.goes (round road (from held)) held' (take (length rest - at) (drop at rest)) part bytes more
      → Going by.probes road.goes (rounds road (r + 1) (from held₀)) held' rest₀ (put_mid at (length rest - at) rest part) (at + bytes) (slots + more)
  going-round r held₀ held rest₀ rest at slots now e held' part bytes more lent =
      subst₂ (λ (then : Progress) (l : List ℕ). Going by.probes road.goes then held' rest₀ l (at + bytes) (slots + more))
      (sym (rounds-next r held₀ (subst (λ (h : List ℕ). outside by.probes h ≡ true) now.holding e) ∙ round-behind road (rounds road r (from held₀))))
      (sym (put-behind rest part at (omega (arith, going-long now, now.within))))
      (going-behind by.probes road.goes (rounds road r (from held₀)) (round road (from (rounds road r (from held₀)).held)) held rest₀ rest at slots now
      held' part bytes more
      (subst₂ (λ (h l : List ℕ). Going by.probes road.goes (round road (from h)) held' l part bytes more) now.holding (part-from rest at) lent))
