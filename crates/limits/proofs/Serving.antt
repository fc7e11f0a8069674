-- A round serves whom it owes a turn. What holds a packet when the round begins has sent before its turn comes, or still holds one, since a
-- node loses packets only by sending. Said of anything that is held, sent and received, so that it serves probes and levels, packets and merged readings alike.
use mathlib.Core.Path.{◌≡◌, refl, sym, ap, ◌∙◌, subst}
use mathlib.Core.Bool.{Bool, true, false, cond}
use mathlib.Core.List.{List, [], ◌∷◌, ◌++◌}
use mathlib.Core.Logic.{◌≢◌, ⊎_elim}
use Prim.Native.Nat.{ℕ, zero, suc, ◌+◌, ◌-◌, ◌*◌, ◌≤◌, ◌<◌, min}
use native.Mathlib.Nat.{mul-le-mul_left, mul_comm, suc-mul}
use native.Mathlib.Decide.{dec_le}
use native.Mathlib.Omega.{arith}
use lib.ListN.{length, get_or, length-append}
use borrow.Author.Tests.{ltb-true, le-ltb}
use Rattle.meaning.specs.declared.Mode.{Mode}
use Rattle.meaning.specs.Words.{for_each, some_probe, sum_probes, places}
use Rattle.meaning.specs.Yard.{is_probe}
use Rattle.meaning.specs.Sheet.{probe_count, parent_of}
use Rattle.meaning.specs.Conflict.{entry, conflict_table}
use Rattle.meaning.specs.Rounds.{Progress, Way, holds, outside, first_in, joined, senders, slot_of, turn_of, turn as turn_slots, held_after, recorded, round, rounds, before}
use Rattle.meaning.specs.Answer.{is_accepted, sheet_test}
use Rattle.meaning.specs.Legal.{may_of, goes_of}
use Rattle.laws.proofs.Turns.{in_sum, below-or-last, for_each-keeps, for_each-stays, some-found, none-some, sum_same, get_or-tab, length-tab, same-or-other}
use Rattle.laws.proofs.Walk.{probe-yes, probe-at}
use Rattle.laws.proofs.Moving.{Each, Sender, length_moved}
use Rattle.laws.proofs.Slots.{Only, each-slot, each-so, rising-slot}
use Rattle.laws.proofs.Joining.{chosen-within, joined-keep}
use Rattle.laws.proofs.Modes.{may-holds, goes-node}
use Rattle.laws.proofs.Recorded.{recorded-none, of-turn}
use Rattle.laws.proofs.Own.{way_over}
use Rattle.limits.specs.Sent.{inflow, sent_in, sent}
use Rattle.limits.proofs.Sums.{for_each-counts, sum-add}
use Rattle.limits.proofs.Sending.{inflow-add, inflow-same, inflow-all, slot-balance, sent-append, sent-one, sender-counts, inflow-none}
use Rattle.limits.proofs.AcceptedYard as Yard

-- an owner of a slot sends in it
owner-in-slot : (p : ℕ) (relation : ℕ → ℕ → Bool) (may : ℕ → Bool) (owners : List Bool) (v : ℕ) → is_probe p v ≡ true → get_or owners v false ≡ true
    → 1 ≤ sent_in (slot_of p relation may owners) v
unfolding slot_of joined for_each
owner-in-slot p relation may owners v h e =
    let at = probe-at p v h in
    let flag : get_or owners (v - 2 + 2) false ≡ true = ap (λ (u : ℕ). get_or owners u false) at.1 ∙ e in
    let stays = joined-keep relation may 0 p (v - 2 + 2) owners (omega arith) (chosen-within owners (v - 2 + 2) flag) flag in
    subst (λ (u : ℕ). 1 ≤ sent_in (senders p (joined p relation may owners)) u) at.1
    (sender-counts p (λ u. get_or (joined p relation may owners) u false) (v - 2) at.0 stays)

-- and in the turn that makes it
pub owner-sends : (p : ℕ) (relation : ℕ → ℕ → Bool) (may : ℕ → Bool) (owners : List Bool) (v : ℕ) → is_probe p v ≡ true → get_or owners v false ≡ true
    → 1 ≤ sent (turn_of p relation may owners) v
unfolding turn_of
owner-sends p relation may owners v h e =
    let at = probe-at p v h in
    let any : some_probe p (λ u. get_or owners u false) ≡ true =
    some-found p (λ k. get_or owners (k + 2) false) (v - 2) at.0 (ap (λ (u : ℕ). get_or owners u false) at.1 ∙ e)
    in
    subst (λ (b : Bool). 1 ≤ sent (cond b (slot_of p relation may owners ∷ []) []) v) (sym any)
    (omega (arith, sent-one (slot_of p relation may owners) v, owner-in-slot p relation may owners v h e))

-- who owns the slots of a sheet's colours: only those that may send
pub record Owning : Type 0 where
  pub owners : ℕ → (ℕ → Bool) → List Bool
  pub colours : ℕ
  pub only : (c : ℕ) (may : ℕ → Bool) → Only may (owners c may)

module _ (mode : Mode) (s : List ℕ) (ok : is_accepted (sheet_test s) ≡ true) (by : Owning) where
  abbrev pub way : Way
  way = way_over mode s by.owners by.colours

  abbrev pub flow : (ℕ → ℕ) → ℕ → ℕ
  flow = inflow (probe_count s) (goes_of mode s)

  -- who may send
  abbrev mays : Progress → ℕ → Bool
  mays now = holds (may_of mode s now.held)

  -- conservation: what a node holds and has sent is what it had and what came to it
  pub record Kept (now : Progress) : Type 0 where
    pub long : length now.held ≡ places
    pub balance : (v : ℕ) → v < places → get_or now.held v 0 + sent now.slots v ≡ first_in mode s v + flow (sent now.slots) v

  -- what a turn makes, and the progress after it
  abbrev made : ℕ → Progress → List (List ℕ)
  made c now = turn_slots way c now.held

  unfoldable pub turn : ℕ → Progress → Progress
  turn c now = recorded (goes_of mode s) (made c now) now

  module _ (c : ℕ) (now : Progress) where
    slot : List ℕ
    slot = slot_of (probe_count s) (entry (conflict_table s)) (mays now) (by.owners c (mays now))

    probe-senders : Each (λ v. is_probe (probe_count s) v ≡ true) slot
    unfolding slot
    probe-senders =
        each-so (λ v. (mays now v ≡ true) × (2 ≤ v) × (v < probe_count s + 2)) (λ v. is_probe (probe_count s) v ≡ true) slot
        (λ v h. probe-yes (probe_count s) v h.1 (omega (arith, h.2)))
        (each-slot (probe_count s) (entry (conflict_table s)) (mays now) (by.owners c (mays now)) (by.only c (mays now)))

    all-send : Each (Sender (goes_of mode s) now.held) slot
    unfolding slot
    all-send =
        each-so (λ v. (mays now v ≡ true) × (2 ≤ v) × (v < probe_count s + 2)) (Sender (goes_of mode s) now.held) slot
        (λ v h.
        let probe = probe-yes (probe_count s) v h.1 (omega (arith, h.2)) in
        let has = may-holds mode (probe_count s) (parent_of s) now.held v h.0 in
        (ltb-true 0 (get_or now.held v 0) has, omega (arith, h.2, Yard.few s ok), goes-node s ok mode v probe))
        (each-slot (probe_count s) (entry (conflict_table s)) (mays now) (by.owners c (mays now)) (by.only c (mays now)))

    pub turn-sent : (v : ℕ) → sent (turn c now).slots v ≡ sent now.slots v + sent (turn_slots way c now.held) v
    unfolding turn recorded
    turn-sent v = sent-append now.slots (made c now) v

    kept-one : Kept now → Kept (recorded (goes_of mode s) (slot ∷ []) now)
    unfolding slot recorded held_after
    kept-one kept =
        record {
          long = length_moved (goes_of mode s) slot now.held ∙ kept.long;
          balance =
              λ v h.
              let moves = slot-balance (probe_count s) (goes_of mode s) 1 slot now.held v h kept.long
              (rising-slot (probe_count s) (entry (conflict_table s)) (mays now) (by.owners c (mays now))) all-send probe-senders in
              let more : (u : ℕ) → sent (now.slots ++ (slot ∷ [])) u ≡ sent now.slots u + sent_in slot u =
              λ u. omega (arith, sent-append now.slots (slot ∷ []) u, sent-one slot u) in
              let flows : flow (sent (now.slots ++ (slot ∷ []))) v ≡ flow (sent now.slots) v + flow (sent_in slot) v =
              inflow-same (probe_count s) (goes_of mode s) (sent (now.slots ++ (slot ∷ []))) (λ c. sent now.slots c + sent_in slot c) v (λ k _ _. more (k + 2))
              ∙ inflow-add (probe_count s) (goes_of mode s) (sent now.slots) (sent_in slot) v in
              omega (arith, moves, flows, more v, kept.balance v h);
        }

    -- what is shown of no slot and of this one is shown of the turn
    turned : (P : List (List ℕ) → Type 0) → P [] → P (slot ∷ []) → P (made c now)
    unfolding slot
    turned P none one =
        of-turn (probe_count s) (entry (conflict_table s)) (mays now) (by.owners c (mays now)) P none (λ _. one)

    pub kept-turn : Kept now → Kept (turn c now)
    unfolding turn
    kept-turn kept = turned (λ l. Kept (recorded (goes_of mode s) l now)) (subst Kept (sym (recorded-none (goes_of mode s) now)) kept) (kept-one kept)

    pub more-sent : (v : ℕ) → sent now.slots v ≤ sent (turn c now).slots v
    more-sent v = omega (arith, turn-sent v)

    turn-few : length (turn c now).slots ≤ suc (length now.slots)
    unfolding turn recorded
    turn-few = omega (arith, length-append now.slots (made c now), turned (λ l. length l ≤ 1) (omega arith) (omega arith))

  -- the first k turns of a round
  unfoldable pub turns : ℕ → Progress → Progress
  turns k now = for_each k (λ c. turn (c + 1)) now

  turns-all : (now : Progress) → turns by.colours now ≡ round way now
  unfolding turns turn round
  turns-all now = refl

  kept-turns : (k : ℕ) (now : Progress) → Kept now → Kept (turns k now)
  unfolding turns
  kept-turns k now kept = for_each-keeps Kept k (λ c. turn (c + 1)) now kept (λ c _ then so. kept-turn (c + 1) then so)

  turns-few : (k : ℕ) (now : Progress) → length (turns k now).slots ≤ k + length now.slots
  unfolding turns
  turns-few k now =
      for_each-counts (λ i then. length then.slots ≤ i + length now.slots) k (λ c. turn (c + 1)) now (omega arith)
      (λ c _ then so. omega (arith, turn-few (c + 1) then))

  unfoldable pub step : Progress → Progress
  step now = cond (outside (probe_count s) now.held) (round way now) now

  -- after r rounds
  unfoldable pub after : ℕ → Progress
  after r = for_each r (λ _. step) (before (first_in mode s))

  pub after-rounds : (r : ℕ) → after r ≡ rounds way r (before (first_in mode s))
  unfolding after step rounds
  after-rounds r = refl

  kept-first : Kept (before (first_in mode s))
  unfolding sent
  kept-first =
      record {
        long = length-tab places (first_in mode s);
        balance = λ v h. omega (arith, get_or-tab places (first_in mode s) v 0 h, inflow-none (probe_count s) (goes_of mode s) v);
      }

  kept_step : (now : Progress) → Kept now → Kept (step now)
  unfolding step
  kept_step now kept = go (outside (probe_count s) now.held)
    where
      go : (b : Bool) → Kept (cond b (round way now) now)
      go true = subst Kept (turns-all now) (kept-turns by.colours now kept)
      go false = kept

  pub kept-after : (r : ℕ) → Kept (after r)
  unfolding after
  kept-after r = for_each-keeps Kept r (λ _. step) (before (first_in mode s)) kept-first (λ _ _ now so. kept_step now so)

  -- a round makes at most one slot a colour
  step-few : (now : Progress) → length (step now).slots ≤ by.colours + length now.slots
  unfolding step
  step-few now = go (outside (probe_count s) now.held)
    where
      go : (b : Bool) → length (cond b (round way now) now).slots ≤ by.colours + length now.slots
      go true = subst (λ (then : Progress). length then.slots ≤ by.colours + length now.slots) (turns-all now) (turns-few by.colours now)
      go false = omega arith

  after-few : (r : ℕ) → length (after r).slots ≤ r * by.colours
  unfolding after
  after-few r =
      for_each-counts (λ i now. length now.slots ≤ i * by.colours) r (λ _. step) (before (first_in mode s)) (omega arith)
      (λ i _ now so. omega (arith, so, step-few now, suc-mul i by.colours))

  -- what the probes hold and what has come to the gateway is all that there was
  pub whole-balance : (now : Progress) → Kept now
      → sum_probes (probe_count s) (λ v. get_or now.held v 0) + flow (sent now.slots) 1 ≡ sum_probes (probe_count s) (first_in mode s)
  whole-balance now kept =
      omega (
        arith,
        sym (sum-add (probe_count s) (λ k. get_or now.held (k + 2) 0) (λ k. sent now.slots (k + 2)))
            ∙ sum_same (probe_count s) (λ k. get_or now.held (k + 2) 0 + sent now.slots (k + 2)) (λ k. first_in mode s (k + 2) + flow (sent now.slots) (k + 2))
            (λ k hk. kept.balance (k + 2) (omega (arith, Yard.few s ok)))
            ∙ sum-add (probe_count s) (λ k. first_in mode s (k + 2)) (λ k. flow (sent now.slots) (k + 2)),
        inflow-all (probe_count s) (goes_of mode s) (sent now.slots) (Yard.goes-inside s ok mode),
      )

  -- all have come home
  pub home_after : (r : ℕ) → sum_probes (probe_count s) (first_in mode s) ≤ flow (sent (after r).slots) 1 → outside (probe_count s) (after r).held ≡ false
  home_after r all =
      let whole = whole-balance (after r) (kept-after r) in
      none-some (probe_count s) (λ k. holds (after r).held (k + 2))
      (λ k hk.
      le-ltb 0 (get_or (after r).held (k + 2) 0)
      (omega (arith, whole, in_sum (probe_count s) (λ j. get_or (after r).held (j + 2) 0) k hk)))

  -- then no round comes after
  stops : (r n : ℕ) → outside (probe_count s) (after r).held ≡ false → r ≤ n → after n ≡ after r
  unfolding after step
  stops r n home h =
      for_each-stays r n (λ _. step) (before (first_in mode s)) (after r) h refl
      (λ _ _ _. ap (λ (b : Bool). cond b (round way (after r)) (after r)) home)

  -- and the slots are at most one for each colour in each round before
  pub slots-most : (r n : ℕ) → sum_probes (probe_count s) (first_in mode s) ≤ flow (sent (after r).slots) 1 → length (rounds way n (before (first_in mode s))).slots ≤ by.colours * r
  slots-most r n all = subst (λ (then : Progress). length then.slots ≤ by.colours * r) (after-rounds n) (go (dec_le n r))
    where
      go : Dec (n ≤ r) → length (after n).slots ≤ by.colours * r
      go (yes l) = omega (arith, after-few n, mul-le-mul_left by.colours l, mul_comm n by.colours)
      go (no l) =
          omega (
            arith,
            after-few r,
            mul_comm r by.colours,
            ap (λ (then : Progress). length then.slots) (stops r n (home_after r all) (omega arith)),
          )

  -- anything that is held, sent and received, of which the turn k of each round sends some if it is held
  module _ (own : ℕ) (had gave got : Progress → ℕ)
      (balanced : (now : Progress) → Kept now → own + got now ≤ had now + gave now)
      (grows : (c : ℕ) (now : Progress) → (gave now ≤ gave (turn c now)) × (got now ≤ got (turn c now)))
      (empty : (now : Progress) → Kept now → outside (probe_count s) now.held ≡ false → had now ≡ 0)
      (k : ℕ) (within : k < by.colours)
      (owes : (now : Progress) → Kept now → 1 ≤ had now → gave now + 1 ≤ gave (turn (k + 1) now)) where
    grow-turns : (j : ℕ) (now : Progress) → (gave now ≤ gave (turns j now)) × (got now ≤ got (turns j now))
    unfolding turns
    grow-turns j now =
        for_each-keeps (λ then. (gave now ≤ gave then) × (got now ≤ got then)) j (λ c. turn (c + 1)) now (omega arith, omega arith)
        (λ c _ then so. (omega (arith, so.0, (grows (c + 1) then).0), omega (arith, so.1, (grows (c + 1) then).1)))

    grow-later : (i j : ℕ) (now : Progress) → i ≤ j → gave (turns i now) ≤ gave (turns j now)
    unfolding turns for_each
    grow-later i zero now h = let none : i ≡ 0 = omega arith in subst (λ (m : ℕ). gave (turns m now) ≤ gave now) (sym none) (omega arith)
    grow-later i (suc j) now h =
        ⊎_elim (λ (l : i < suc j). omega (arith, grow-later i j now (omega arith), (grows (j + 1) (turns j now)).0))
        (λ (l : i ≡ suc j). subst (λ (m : ℕ). gave (turns i now) ≤ gave (turns m now)) l (omega arith))
        (below-or-last i (suc j) (omega arith))

    next-turn : (now : Progress) → gave (turn (k + 1) (turns k now)) ≤ gave (turns by.colours now)
    unfolding turns for_each
    next-turn now = grow-later (suc k) by.colours now within

    serve-round : (now : Progress) → Kept now → min (gave now + 1) (own + got now) ≤ gave (round way now)
    serve-round now kept =
        let then : Progress = turns k now in
        let early = grow-turns k now in
        let late : gave (turn (k + 1) then) ≤ gave (round way now) =
        subst (λ (end : Progress). gave (turn (k + 1) then) ≤ gave end) (turns-all now) (next-turn now) in
        ⊎_elim
        (λ (none : had then ≡ 0). omega (arith, early.0, early.1, late, (grows (k + 1) then).0, balanced then (kept-turns k now kept)))
        (λ (any : had then ≢ 0). omega (arith, early.0, late, owes then (kept-turns k now kept) (omega arith)))
        (same-or-other (had then) 0)

    pub serves : (r : ℕ) → min (gave (after r) + 1) (own + got (after r)) ≤ gave (after (suc r))
    unfolding after for_each step
    serves r = go (outside (probe_count s) (after r).held) refl
      where
        go : (b : Bool) → outside (probe_count s) (after r).held ≡ b
            → min (gave (after r) + 1) (own + got (after r)) ≤ gave (cond b (round way (after r)) (after r))
        go true e = serve-round (after r) (kept-after r)
        go false e = omega (arith, balanced (after r) (kept-after r), empty (after r) (kept-after r) e)
