-- Our own plans pass. Each slot that a turn makes is legal; while anything is outside some probe may send and a round makes a slot, so that the sendings are rounds enough;
-- and each slot makes a sending at least, so that the slots are no more than the sendings. Then the judge, being exact, passes the plan. This goes for any way
-- whose owners have the three facts of `Fair`, for packets and merged readings alike, and then for the three ways.
use mathlib.Core.Path.{◌≡◌, refl, sym, ap, ap₂, ◌∙◌, subst}
use mathlib.Core.Bool.{Bool, true, false, cond, ◌&&◌}
use mathlib.Core.List.{List, [], ◌∷◌}
use mathlib.Core.Logic.{◌⊎◌, inl, inr, ⊎_elim}
use Prim.Native.Nat.{ℕ, zero, suc, ◌+◌, ◌-◌, ◌*◌, ◌≤◌, ◌<◌}
use native.Mathlib.Decide.{dec_lt}
use native.Mathlib.Omega.{arith}
use borrow.Author.Tests.{ltb-true, eqb-true, eq-eqb}
use lib.Dec.{eqb}
use lib.ListN.{length, get_or, replicate, length-append, get_or-eq_default}
use Rattle.meaning.specs.declared.Mode.{Mode}
use Rattle.meaning.specs.declared.Mode.TheVariants.{Packets, Merged}
use Rattle.meaning.specs.Words.{for_each, some_probe, tab, places}
use Rattle.meaning.specs.Yard.{is_probe}
use Rattle.meaning.specs.Sheet.{probe_count, level_of}
use Rattle.meaning.specs.Conflict.{entry, conflict_table}
use Rattle.meaning.specs.Colour.{colours_used, probe_colours, level_colours, depth}
use Rattle.meaning.specs.Plan.{slot_bytes, plan_bytes, room_for}
use Rattle.meaning.specs.Rounds.{holds, outside, first_in, sendings_in, joined, owners_by_probe, owners_by_level, slot_of, turn_of, moved, held_after}
use Rattle.meaning.specs.Rounds.{Progress, recorded, Way, turn, round, rounds, before, by_probe_in, by_probe, merged, by_level, slots_in}
use Rattle.meaning.specs.Answer.{accepted, is_accepted, sheet_test}
use Rattle.meaning.specs.Judge.{judge_in}
use Rattle.meaning.specs.Legal.{Legal, may_of, goes_of, held_in, RunsIn, Arrived, GoodIn}
use Rattle.laws.proofs.Turns.{below-or-last, for_each-keeps, some-found, length-tab, get_or-tab}
use Rattle.laws.proofs.Walk.{not-both, probe-yes, probe-least, probe-most, probe-at}
use Rattle.laws.proofs.Moving.{Each, length_moved}
use Rattle.laws.proofs.Slots.{Only, and_left, and_right, never, true-or-false, only-joined, each-slot, rising-slot}
use Rattle.laws.proofs.Accepted.{accepted-yard}
use Rattle.laws.proofs.Exact.{table-clash, slot-bytes-append, held-append, runs_append, none-outside, good-passed}
use Rattle.laws.proofs.Joining.{Chosen, Free, nobody-chosen, free-joined, one-joined, each_chosen, owned-slot}
use Rattle.laws.proofs.Grounds.{level-least}
use Rattle.laws.proofs.Modes.{sendings-left, sendings-most, some-may}
use Rattle.laws.proofs.Recorded.{recorded-none}
use Rattle.laws.proofs.Running.{each_at, rising-at, left, none_left, legal-left}
use Rattle.laws.proofs.Levels.{most-holds, table-conflicts, probes-proper, level-deep, depth-most, levels-proper}

-- what the owners of a colour's slot have to be: each may send, no two conflict; and whoever may send, some colour has an owner
pub record Fair (s : List ℕ) (owners : ℕ → (ℕ → Bool) → List Bool) (colours : ℕ) : Type 0 where
  pub only : (c : ℕ) (may : ℕ → Bool) → Only may (owners c may)
  pub free : (c : ℕ) (may : ℕ → Bool) → Free (entry (conflict_table s)) (owners c may)
  pub served : (may : ℕ → Bool) (v : ℕ) → is_probe (probe_count s) v ≡ true → may v ≡ true
      → (c : ℕ) × (c < colours) × (some_probe (probe_count s) (λ u. get_or (owners (c + 1) may) u false) ≡ true)

-- a way over the sheet's own probes, parents and conflicts
abbrev pub way_over : Mode → List ℕ → (ℕ → (ℕ → Bool) → List Bool) → ℕ → Way
way_over mode s owners colours =
    record { probes = probe_count s; goes = goes_of mode s; relation = entry (conflict_table s); may = may_of mode s; owners = owners; colours = colours }

-- what is true of a plan of our own: it is good, the judge passes it and counts its slots, and they and their bytes are no more than the sendings allow
pub record OwnPlan (mode : Mode) (s : List ℕ) (way : Way) : Type 0 where
  pub good : GoodIn mode s (plan_bytes (slots_in mode s way))
  pub passed : judge_in mode s (plan_bytes (slots_in mode s way)) ≡ record { outcome = accepted; slots = length (slots_in mode s way) }
  pub few : length (slots_in mode s way) ≤ sendings_in mode s
  pub room : length (plan_bytes (slots_in mode s way)) ≤ room_for (sendings_in mode s)

module _ (mode : Mode) (s : List ℕ) (ok : is_accepted (sheet_test s) ≡ true) (owners : ℕ → (ℕ → Bool) → List Bool) (colours : ℕ) (fair : Fair s owners colours) where
  abbrev way : Way
  way = way_over mode s owners colours

  abbrev unsent : List ℕ → ℕ
  unsent held = left mode s ok held

  -- who may send
  abbrev mays : List ℕ → ℕ → Bool
  mays held = holds (may_of mode s held)

  few : probe_count s ≤ 63
  few = (accepted-yard s ok).few

  one-slot : (slot : List ℕ) → length (slot_bytes (slot ∷ [])) ≡ 1 + length slot
  unfolding slot_bytes
  one-slot slot = omega (arith, length-append slot [])

  -- who owns the slot of a colour, whether there is any, and the slot
  abbrev owning : ℕ → List ℕ → List Bool
  owning c held = owners c (mays held)

  abbrev owned : ℕ → List ℕ → Bool
  owned c held = some_probe (probe_count s) (λ u. get_or (owning c held) u false)

  abbrev slot_for : ℕ → List ℕ → List ℕ
  slot_for c held = slot_of (probe_count s) (entry (conflict_table s)) (mays held) (owning c held)

  -- the slot of a colour is legal
  slot-legal : (c : ℕ) (held : List ℕ) → Legal s (may_of mode s held) (slot_for c held)
  slot-legal c held =
      record {
        probes =
            λ i h.
            let at = each_at _ slot each i h in
            probe-yes (probe_count s) (get_or slot i 0) at.1 (omega (arith, at.2));
        rising = rising-at 1 slot (rising-slot (probe_count s) (entry (conflict_table s)) (mays held) (owners c (mays held)));
        holding = λ i h. ltb-true 0 (get_or (may_of mode s held) (get_or slot i 0) 0) (each_at _ slot each i h).0;
        apart =
            λ i j h l.
            sym (table-clash s ok (get_or slot i 0) (get_or slot j 0))
            ∙ free-joined (entry (conflict_table s)) (mays held) 2 (probe_count s) (table-conflicts s ok) (omega (arith, few)) (probe_count s)
            (owners c (mays held)) (fair.free c (mays held)) (get_or slot i 0) (get_or slot j 0)
            (each_at _ slot chosen i (omega arith)) (each_at _ slot chosen j l);
      }
    where
      slot : List ℕ
      slot = slot_for c held

      each : Each (λ v. (mays held v ≡ true) × (2 ≤ v) × (v < probe_count s + 2)) slot
      each = each-slot (probe_count s) (entry (conflict_table s)) (mays held) (owners c (mays held)) (fair.only c (mays held))

      chosen : Each (Chosen (joined (probe_count s) (entry (conflict_table s)) (mays held) (owners c (mays held)))) slot
      chosen = each_chosen (entry (conflict_table s)) (mays held) (probe_count s) (owners c (mays held))

  -- how far a plan has come: its slots run, and each has made a sending at least
  record Going (now : Progress) : Type 0 where
    long : length now.held ≡ places
    runs : RunsIn mode s (held_in mode s) now.slots
    after : held_after (goes_of mode s) (held_in mode s) now.slots ≡ now.held
    fewer : length now.slots + unsent now.held ≤ sendings_in mode s
    shorter : length (slot_bytes now.slots) + 2 * unsent now.held ≤ 2 * sendings_in mode s

  going-first : Going (before (first_in mode s))
  unfolding RunsIn held_after slot_bytes
  going-first =
      record {
        long = length-tab places (first_in mode s);
        runs = tt;
        after = refl;
        fewer = omega (arith, sendings-left s ok mode);
        shorter = omega (arith, sendings-left s ok mode);
      }

  going_next : (slot : List ℕ) (now : Progress) → Going now → Legal s (may_of mode s now.held) slot → 1 ≤ length slot → Going (recorded (goes_of mode s) (slot ∷ []) now)
  unfolding recorded RunsIn held_after
  going_next slot now going legal sends =
      record {
        long = length_moved (goes_of mode s) slot now.held ∙ going.long;
        runs =
            runs_append mode s (held_in mode s) now.slots (slot ∷ []) going.runs
            (subst (λ (held : List ℕ). Legal s (may_of mode s held) slot) (sym going.after) legal, tt);
        after =
            held-append (goes_of mode s) (held_in mode s) now.slots (slot ∷ []) ∙ ap (λ (held : List ℕ). moved (goes_of mode s) slot held) going.after;
        fewer =
            omega (
              arith,
              going.fewer,
              length-append now.slots (slot ∷ []),
              legal-left mode s ok now.held slot legal going.long,
            );
        shorter =
            omega (
              arith,
              going.shorter,
              ap length (slot-bytes-append now.slots (slot ∷ [])) ∙ length-append (slot_bytes now.slots) (slot_bytes (slot ∷ [])),
              one-slot slot,
              legal-left mode s ok now.held slot legal going.long,
            );
      }

  -- one turn of a round
  unfoldable next : ℕ → Progress → Progress
  next k now = recorded (goes_of mode s) (turn way (k + 1) now.held) now

  -- with no owner nothing happens; with an owner the slot is recorded
  next-none : (k : ℕ) (now : Progress) → owned (k + 1) now.held ≡ false → next k now ≡ now
  unfolding next turn_of
  next-none k now e =
      ap (λ (b : Bool). recorded (goes_of mode s) (cond b (slot_for (k + 1) now.held ∷ []) []) now) e ∙ recorded-none (goes_of mode s) now

  next_one : (k : ℕ) (now : Progress) → owned (k + 1) now.held ≡ true → next k now ≡ recorded (goes_of mode s) (slot_for (k + 1) now.held ∷ []) now
  unfolding next turn_of
  next_one k now e = ap (λ (b : Bool). recorded (goes_of mode s) (cond b (slot_for (k + 1) now.held ∷ []) []) now) e

  sends : (c : ℕ) (held : List ℕ) → owned c held ≡ true → 1 ≤ length (slot_for c held)
  sends c held e = owned-slot (probe_count s) (entry (conflict_table s)) (mays held) (owning c held) e

  going-turn : (k : ℕ) (now : Progress) → Going now → Going (next k now)
  going-turn k now going =
      ⊎_elim
      (λ e. subst Going (sym (next_one k now e)) (going_next (slot_for (k + 1) now.held) now going (slot-legal (k + 1) now.held) (sends (k + 1) now.held e)))
      (λ e. subst Going (sym (next-none k now e)) going)
      (true-or-false (owned (k + 1) now.held))

  -- a slot that is made takes sendings away
  left_one : (k : ℕ) (now : Progress) → Going now → owned (k + 1) now.held ≡ true → unsent (next k now).held < unsent now.held
  unfolding recorded held_after
  left_one k now going e =
      omega (
        arith,
        ap (λ (then : Progress). unsent then.held) (next_one k now e),
        legal-left mode s ok now.held (slot_for (k + 1) now.held) (slot-legal (k + 1) now.held) going.long,
        sends (k + 1) now.held e,
      )

  left-next : (k : ℕ) (now : Progress) → Going now → unsent (next k now).held ≤ unsent now.held
  left-next k now going =
      ⊎_elim (λ e. omega (arith, left_one k now going e)) (λ e. omega (arith, ap (λ (then : Progress). unsent then.held) (next-none k now e)))
      (true-or-false (owned (k + 1) now.held))

  module _ (now : Progress) (going : Going now) where
    going-turns : (n : ℕ) → Going (for_each n next now)
    going-turns n = for_each-keeps Going n next now going (λ k _ was h. going-turn k was h)

    going-round : Going (round way now)
    unfolding round next
    going-round = going-turns colours

    -- as far as turn n of a round sendings have been taken away, or nothing has happened and the colour c that has an owner is still to come
    module _ (c : ℕ) (has : owned (c + 1) now.held ≡ true) where
      falls : (n : ℕ) → (unsent (for_each n next now).held < unsent now.held) ⊎ ((for_each n next now ≡ now) × (n ≤ c))
      unfolding for_each
      falls zero = inr (refl, omega arith)
      falls (suc n) =
          ⊎_elim
          (λ less. inl (omega (arith, left-next n was (going-turns n), less)))
          (λ still. ⊎_elim (λ made. inl (omega (arith, left_one n was (going-turns n) made, ap (λ (then : Progress). unsent then.held) still.0))) (none still)
          (true-or-false (owned (n + 1) was.held)))
          (falls n)
        where
          was : Progress
          was = for_each n next now

          none : (was ≡ now) × (n ≤ c) → owned (n + 1) was.held ≡ false
              → (unsent (next n was).held < unsent now.held) ⊎ ((next n was ≡ now) × (suc n ≤ c))
          none still e = inr (
            next-none n was e ∙ still.0,
            ⊎_elim (λ (l : n < c). l) (λ (l : n ≡ c). not-both has (sym (ap₂ (λ (k : ℕ) (then : Progress). owned (k + 1) then.held) l still.0) ∙ e))
                (below-or-last n c (omega (arith, still.1))),
          )

      round-falls : c < colours → unsent (round way now).held < unsent now.held
      unfolding round next
      round-falls h = ⊎_elim (λ less. less) (λ still. absurd (omega (arith, still.1))) (falls colours)

  -- after n rounds nothing is outside, or n sendings are made
  record Gone (n : ℕ) (now : Progress) : Type 0 where
    going : Going now
    nearer : (outside (probe_count s) now.held ≡ false) ⊎ (unsent now.held + n ≤ sendings_in mode s)

  gone : (n : ℕ) → Gone n (rounds way n (before (first_in mode s)))
  unfolding rounds for_each
  gone zero = record { going = going-first; nearer = inr (omega (arith, sendings-left s ok mode)) }
  gone (suc n) = go (rounds way n (before (first_in mode s))) (gone n)
    where
      go : (now : Progress) → Gone n now → Gone (suc n) (cond (outside (probe_count s) now.held) (round way now) now)
      go now so = on (outside (probe_count s) now.held) refl
        where
          on : (b : Bool) → outside (probe_count s) now.held ≡ b → Gone (suc n) (cond b (round way now) now)
          on false e = record { going = so.going; nearer = inl e }
          on true e =
              let ready = some-may s ok mode now.held e in
              let colour = fair.served (mays now.held) ready.0 ready.1 ready.2 in
              let less = round-falls now so.going colour.0 colour.2 colour.1 in
              record {
                going = going-round now so.going;
                nearer = ⊎_elim (λ none. not-both e none) (λ near. inr (omega (arith, less, near))) so.nearer;
              }

  -- so the sendings are rounds enough
  last : Progress
  last = rounds way (sendings_in mode s) (before (first_in mode s))

  end : Gone (sendings_in mode s) last
  unfolding last
  end = gone (sendings_in mode s)

  all_in : Arrived s last.held
  all_in = ⊎_elim (λ none. none-outside s last.held none) (λ near. none_left mode s ok last.held (omega (arith, near))) end.nearer

  good : GoodIn mode s (plan_bytes (slots_in mode s way))
  unfolding slots_in last
  good =
      record {
        sheet = ok;
        slots = slots_in mode s way;
        few = omega (arith, end.going.fewer, sendings-most s ok mode);
        written = refl;
        runs = end.going.runs;
        arrived = subst (λ (held : List ℕ). Arrived s held) (sym end.going.after) all_in;
      }

  pub own-plan : OwnPlan mode s way
  unfolding slots_in last good
  own-plan =
      record {
        good = good;
        passed = good-passed mode s (plan_bytes (slots_in mode s way)) good;
        few = omega (arith, end.going.fewer);
        room = omega (arith, end.going.shorter);
      }

-- what stands in a list by node was put there
chosen-tab : (f : ℕ → Bool) (v : ℕ) → get_or (tab places f) v false ≡ true → f v ≡ true
chosen-tab f v e = go (dec_lt v places)
  where
    go : Dec (v < places) → f v ≡ true
    go (yes l) = sym (get_or-tab places f v false l) ∙ e
    go (no l) = never (sym (get_or-eq_default (tab places f) false {n = v} (rw (length-tab places f) (omega arith))) ∙ e)

module _ (s : List ℕ) (ok : is_accepted (sheet_test s) ≡ true) where
  small : probe_count s ≤ 63
  small = (accepted-yard s ok).few

  abbrev probe_colour : ℕ → ℕ
  probe_colour v = get_or (probe_colours s) v 0

  abbrev level_colour : ℕ → ℕ
  level_colour v = get_or (level_colours s) (level_of s v) 0

  -- by probe: those of one colour do not conflict, and each is an owner of its own
  by-probe-fair : Fair s (owners_by_probe probe_colour) (colours_used (probe_colours s))
  unfolding owners_by_probe
  by-probe-fair =
      record {
        only = λ c may v e. and_right (eqb (probe_colour v) c) (may v) (chosen-tab _ v e);
        free =
            λ c may x y hx hy.
            let x-has = eqb-true (probe_colour x) c (and_left (eqb (probe_colour x) c) (may x) (chosen-tab _ x hx)) in
            let y-has = eqb-true (probe_colour y) c (and_left (eqb (probe_colour y) c) (may y) (chosen-tab _ y hy)) in
            ⊎_elim (λ (r : entry (conflict_table s) x y ≡ true). absurd ((probes-proper s ok).apart x y r (x-has ∙ sym y-has)))
            (λ (r : entry (conflict_table s) x y ≡ false). r)
            (true-or-false (entry (conflict_table s) x y));
        served =
            λ may v probe m.
            let at = probe-at (probe_count s) v probe in
            let from : 1 ≤ probe_colour v = (probes-proper s ok).inside v (probe-least (probe_count s) v probe) (omega (arith, probe-most (probe_count s) v probe)) in
            let node : v < places = omega (arith, at.0, at.1, small) in (
              probe_colour v - 1,
              omega (arith, from, most-holds places probe_colour v node),
              some-found (probe_count s) _ (v - 2) at.0
                  (subst
                  (λ (u : ℕ). get_or (tab places (λ w. eqb (probe_colour w) (probe_colour v - 1 + 1) && may w)) u false ≡ true)
                  (sym at.1)
                  (get_or-tab places _ v false node
                  ∙ ap₂ ◌&&◌ (eq-eqb (probe_colour v) (probe_colour v - 1 + 1) (omega arith)) m)),
            );
      }

  -- the plan by probe, of packets and of merged readings alike
  pub by-probe-own : (mode : Mode) → OwnPlan mode s (by_probe_in mode s)
  by-probe-own mode = own-plan mode s ok (owners_by_probe probe_colour) (colours_used (probe_colours s)) by-probe-fair

  pub by-probe-plan : OwnPlan Packets s (by_probe s)
  unfolding by_probe
  by-probe-plan = by-probe-own Packets

  pub merged_plan : OwnPlan Merged s (merged s)
  unfolding merged
  merged_plan = by-probe-own Merged

  -- by level: those that are taken one after the other do not conflict, and where one of a colour holds a packet one of that colour is taken
  by-level-fair : Fair s (owners_by_level (probe_count s) (entry (conflict_table s)) level_colour) (colours_used (level_colours s))
  unfolding owners_by_level
  by-level-fair =
      record {
        only =
            λ c may v e.
            and_right (eqb (level_colour v) c) (may v)
            (only-joined (probe_count s) (entry (conflict_table s)) _ (replicate places false) (λ u h. never (sym (nobody-chosen places u) ∙ h)) v e);
        free =
            λ c may.
            free-joined (entry (conflict_table s)) _ 2 (probe_count s) (table-conflicts s ok) (omega (arith, small)) (probe_count s) (replicate places false)
            (λ x y hx hy. never (sym (nobody-chosen places x) ∙ hx));
        served =
            λ may v probe m.
            let at = probe-at (probe_count s) v probe in
            let l : ℕ = level_of s v in
            let deep : l ≤ depth s = subst (λ (u : ℕ). level_of s u ≤ depth s) at.1 (level-deep s ok (v - 2) at.0) in
            let from : 1 ≤ level_colour v = (levels-proper s ok).inside l (level-least s ok v probe) (omega arith) in (
              level_colour v - 1,
              omega (arith, from, most-holds places (λ u. get_or (level_colours s) u 0) l (omega (arith, deep, depth-most s ok, small))),
              one-joined (entry (conflict_table s)) (λ u. eqb (level_colour u) (level_colour v - 1 + 1) && may u) 2
                  (probe_count s) (table-conflicts s ok) (omega (arith, small)) (probe_count s) (v - 2) (replicate places false) refl at.0 (omega arith)
                  (omega arith) (omega (arith, at.0, small))
                  (subst (λ (u : ℕ). (eqb (level_colour u) (level_colour v - 1 + 1) && may u) ≡ true) (sym at.1)
                  (ap₂ ◌&&◌ (eq-eqb (level_colour v) (level_colour v - 1 + 1) (omega arith)) m)),
            );
      }

  pub by-level-plan : OwnPlan Packets s (by_level s)
  unfolding by_level
  by-level-plan = own-plan Packets s ok (owners_by_level (probe_count s) (entry (conflict_table s)) level_colour) (colours_used (level_colours s)) by-level-fair
