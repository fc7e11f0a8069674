-- Demand 3, by probe: never more slots than colours times the packets and the lag of the slowest branch. Every probe that holds a packet sends in each
-- round, at the latest in its own colour's turn; so after as many rounds as the slowest branch wants all are home.
use mathlib.Core.Path.{◌≡◌, sym, ap, ap₂, ◌∙◌}
use mathlib.Core.Bool.{Bool, true, false, ◌&&◌}
use mathlib.Core.List.{List}
use mathlib.Core.Logic.{⊎_elim}
use Prim.Native.Nat.{ℕ, suc, ◌+◌, ◌-◌, ◌*◌, ◌≤◌, ◌<◌, min}
use native.Mathlib.Nat.{mul-le-mul_left}
use native.Mathlib.Decide.{dec_lt}
use native.Mathlib.Omega.{arith}
use lib.Dec.{eqb}
use lib.ListN.{length, get_or, get_or-eq_default}
use borrow.Author.Tests.{eq-eqb, ltb-false, lt-ltb}
use Rattle.meaning.specs.declared.Mode.{Mode}
use Rattle.meaning.specs.declared.Mode.TheVariants.{Packets}
use Rattle.meaning.specs.Words.{tab, places}
use Rattle.meaning.specs.Yard.{is_probe, branch_packets, branch_lag}
use Rattle.meaning.specs.Sheet.{probe_count, parent_of, packets_of, hops, heaviest, longest, slowest}
use Rattle.meaning.specs.Conflict.{entry, conflict_table}
use Rattle.meaning.specs.Colour.{colours_used, probe_colours}
use Rattle.meaning.specs.Rounds.{Progress, holds, outside, owners_by_probe, by_probe, slots_in, slots_of}
use Rattle.meaning.specs.Answer.{is_accepted, sheet_test}
use Rattle.meaning.specs.Legal.{may_of}
use Rattle.laws.proofs.Turns.{some-none, get_or-tab, length-tab}
use Rattle.laws.proofs.Modes.{may-holds}
use Rattle.laws.proofs.Walk.{not-both, probe-least, probe-most, probe-yes, probe-at}
use Rattle.laws.proofs.Slots.{Only, and_right, never, true-or-false}
use Rattle.laws.proofs.Levels.{most-holds, probes-proper}
use Rattle.limits.specs.Sent.{inflow, sent}
use Rattle.limits.proofs.Served.{served, inflow-least}
use Rattle.limits.proofs.Branch.{branch-own, branch-all}
use Rattle.limits.proofs.Lag.{lags, in-slowest, slowest-longest, slowest-heaviest}
use Rattle.limits.proofs.Serving.{Owning, Kept, turn, after, more-sent, turn-sent, owner-sends, serves, slots-most}
use Rattle.limits.proofs.AcceptedYard as Yard

-- only holders own a slot
pub only-owners : (colour : ℕ → ℕ) (c : ℕ) (may : ℕ → Bool) → Only may (owners_by_probe colour c may)
unfolding owners_by_probe
only-owners colour c may v e = go (dec_lt v places)
  where
    go : Dec (v < places) → may v ≡ true
    go (yes l) = and_right (eqb (colour v) c) (may v) (sym (get_or-tab places (λ u. eqb (colour u) c && may u) v false l) ∙ e)
    go (no l) =
        let past : length (tab places (λ u. eqb (colour u) c && may u)) ≤ v = omega (arith, length-tab places (λ u. eqb (colour u) c && may u)) in
        never (sym (get_or-eq_default (tab places (λ u. eqb (colour u) c && may u)) false past) ∙ e)

-- in its colour's turn a holder is an owner
owns : (colour : ℕ → ℕ) (c : ℕ) (may : ℕ → Bool) (v : ℕ) → v < places → colour v ≡ c → may v ≡ true → get_or (owners_by_probe colour c may) v false ≡ true
unfolding owners_by_probe
owns colour c may v h e m =
    get_or-tab places (λ u. eqb (colour u) c && may u) v false h ∙ ap₂ ◌&&◌ (eq-eqb (colour v) c e) m

module _ (s : List ℕ) (ok : is_accepted (sheet_test s) ≡ true) where
  -- the way by probe, by its owners
  abbrev pub by : Owning
  by =
      record {
        owners = owners_by_probe (λ v. get_or (probe_colours s) v 0);
        colours = colours_used (probe_colours s);
        only = only-owners (λ v. get_or (probe_colours s) v 0);
      }

  module _ (v : ℕ) (h : is_probe (probe_count s) v ≡ true) where
    node : v < places
    node = omega (arith, probe-most (probe_count s) v h, Yard.few s ok)

    colour : ℕ
    colour = get_or (probe_colours s) v 0

    colour-least : 1 ≤ colour
    unfolding colour
    colour-least = (probes-proper s ok).inside v (probe-least (probe_count s) v h) (omega (arith, probe-most (probe_count s) v h))

    colour-most : colour ≤ colours_used (probe_colours s)
    unfolding colour
    colour-most = most-holds places (λ u. get_or (probe_colours s) u 0) v node

    its-turn : get_or (probe_colours s) v 0 ≡ colour - 1 + 1
    unfolding colour
    its-turn = omega (arith, colour-least)

    -- in each round it sends if it may, whatever it receives
    module _ (mode : Mode) where
      owes : (now : Progress) → Kept mode s ok by now → 1 ≤ get_or (may_of mode s now.held) v 0
          → sent now.slots v + 1 ≤ sent (turn mode s ok by (colour - 1 + 1) now).slots v
      owes now kept any =
          let c : ℕ = colour - 1 + 1 in
          let its : get_or (probe_colours s) v 0 ≡ c = its-turn in
          let mays : ℕ → Bool = holds (may_of mode s now.held) in
          let may : mays v ≡ true = lt-ltb 0 (get_or (may_of mode s now.held) v 0) any in
          omega (
            arith,
            turn-sent mode s ok by c now v,
            owner-sends (probe_count s) (entry (conflict_table s)) mays (owners_by_probe (λ u. get_or (probe_colours s) u 0) c mays) v h
                (owns (λ u. get_or (probe_colours s) u 0) c mays v node its may),
          )

      -- with nothing outside it may not
      none-may : (held : List ℕ) → outside (probe_count s) held ≡ false → get_or (may_of mode s held) v 0 ≡ 0
      none-may held none =
          let at = probe-at (probe_count s) v h in
          let empty : holds held v ≡ false =
          ap (holds held) (sym at.1) ∙ some-none (probe_count s) (λ j. holds held (j + 2)) none (v - 2) at.0 in
          ⊎_elim (λ may. not-both (may-holds mode (probe_count s) (parent_of s) held v may) empty)
          (λ not. omega (arith, ltb-false 0 (get_or (may_of mode s held) v 0) not))
          (true-or-false (holds (may_of mode s held) v))

      pub serves-in : (own : ℕ) (got : Progress → ℕ)
          → ((now : Progress) → Kept mode s ok by now → own + got now ≤ get_or (may_of mode s now.held) v 0 + sent now.slots v)
          → ((c : ℕ) (now : Progress) → got now ≤ got (turn mode s ok by c now))
          → (r : ℕ) → min (sent (after mode s ok by r).slots v + 1) (own + got (after mode s ok by r)) ≤ sent (after mode s ok by (suc r)).slots v
      serves-in own got balanced grows =
          serves mode s ok by own (λ now. get_or (may_of mode s now.held) v 0) (λ now. sent now.slots v) got balanced
          (λ c now. (more-sent mode s ok by c now v, grows c now))
          (λ now kept none. none-may now.held none)
          (colour - 1) (omega (arith, colour-least, colour-most)) owes

    -- it sends in every round while it holds a packet
    pub serves-probe : (r : ℕ)
        → min (sent (after Packets s ok by r).slots v + 1) (packets_of s v + inflow (probe_count s) (parent_of s) (sent (after Packets s ok by r).slots) v)
        ≤ sent (after Packets s ok by (suc r)).slots v
    serves-probe =
        serves-in Packets (packets_of s v) (λ now. inflow (probe_count s) (parent_of s) (sent now.slots) v)
        (λ now kept. omega (arith, kept.balance v node))
        (λ c now.
        inflow-least (probe_count s) (parent_of s) (sent now.slots) (sent (turn Packets s ok by c now).slots) v
        (λ k _ _. more-sent Packets s ok by c now (k + 2)))

  -- after as many rounds as the slowest branch wants, each probe has sent all of its branch's
  all-sent : (v : ℕ) → is_probe (probe_count s) v ≡ true → branch_packets (probe_count s) (parent_of s) (packets_of s) v ≤ sent (after Packets s ok by (slowest s)).slots v
  unfolding slowest
  all-sent v h =
      let p : ℕ = probe_count s in
      let enough = served p (parent_of s) (packets_of s) (branch_packets p (parent_of s) (packets_of s)) (branch_lag p (parent_of s) (packets_of s))
      (λ r u. sent (after Packets s ok by r).slots u)
      (λ u hu. omega (arith, branch-own p (parent_of s) (Yard.rooted s ok) (packets_of s) u hu))
      (λ c hc _. lags p (parent_of s) (packets_of s) (Yard.rooted s ok) c hc)
      (λ r u hu. serves-probe u hu r)
      (slowest s) v h in
      omega (arith, in-slowest p (parent_of s) (packets_of s) (Yard.rooted s ok) v h, enough)

  -- if after r rounds each probe has sent all of its branch's, all are home, and r rounds were enough
  pub rounds-enough : (r : ℕ)
      → ((v : ℕ) → is_probe (probe_count s) v ≡ true → branch_packets (probe_count s) (parent_of s) (packets_of s) v ≤ sent (after Packets s ok by r).slots v)
      → length (slots_of s (by_probe s)) ≤ colours_used (probe_colours s) * r
  unfolding slots_in by_probe
  rounds-enough r all =
      slots-most Packets s ok by r (hops s)
      (omega (
        arith,
        branch-all (probe_count s) (parent_of s) (Yard.rooted s ok) (packets_of s),
        inflow-least (probe_count s) (parent_of s) (branch_packets (probe_count s) (parent_of s) (packets_of s)) (sent (after Packets s ok by r).slots) 1
            (λ k hk _. all (k + 2) (probe-yes (probe_count s) (k + 2) (omega arith) (omega arith))),
      ))

  -- demand 3, by probe
  pub by-probe-most : length (slots_of s (by_probe s)) ≤ colours_used (probe_colours s) * slowest s
  by-probe-most = rounds-enough (slowest s) all-sent

  -- by the levels below each top
  pub by-probe-levels : length (slots_of s (by_probe s)) ≤ colours_used (probe_colours s) * longest s
  unfolding slowest longest
  by-probe-levels =
      omega (
        arith,
        by-probe-most,
        mul-le-mul_left (colours_used (probe_colours s)) (slowest-longest (probe_count s) (parent_of s) (packets_of s) (Yard.rooted s ok)),
      )

  -- and, where every probe has a packet, by the heaviest branch alone
  pub by-probe-packets : ((v : ℕ) → is_probe (probe_count s) v ≡ true → 1 ≤ packets_of s v)
      → length (slots_of s (by_probe s)) ≤ colours_used (probe_colours s) * heaviest s
  unfolding slowest heaviest
  by-probe-packets some =
      omega (
        arith,
        by-probe-most,
        mul-le-mul_left (colours_used (probe_colours s)) (slowest-heaviest (probe_count s) (parent_of s) (packets_of s) (Yard.rooted s ok) some),
      )
