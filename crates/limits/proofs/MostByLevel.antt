-- Demand 3, by level: never more slots than colours times all packets and the lag of the levels. A level that holds a packet when a round begins sends in it: in its colour's turn
-- a holder is taken, or one that conflicts with it was, and that one is of the same level. The levels form a line, so after as many rounds as there are
-- packets, and as the first level may be behind, all are home.
use mathlib.Core.Path.{◌≡◌, refl, sym, ap, ap₂, ◌∙◌, subst}
use mathlib.Core.Bool.{Bool, true, false, cond, not, ◌&&◌}
use mathlib.Core.List.{List}
use mathlib.Core.Logic.{◌≢◌, ◌⊎◌, inl, inr, ⊎_elim}
use Prim.Native.Nat.{ℕ, zero, suc, ◌+◌, ◌-◌, ◌*◌, ◌≤◌, ◌<◌, min}
use native.Mathlib.Nat.{mul-le-mul_left}
use native.Mathlib.Decide.{dec_le}
use native.Mathlib.Omega.{arith}
use lib.Dec.{eqb}
use lib.ListN.{length, get_or, set, replicate}
use lib.Seq.{get_or-set_same}
use borrow.Author.Tests.{eq-eqb, eqb-true, ltb-false, lt-ltb}
use Rattle.meaning.specs.declared.Mode.TheVariants.{Packets}
use Rattle.meaning.specs.Words.{sum_probes, places}
use Rattle.meaning.specs.Yard.{is_probe, reaches, climb, branch_lag}
use Rattle.meaning.specs.Sheet.{probe_count, parent_of, packets_of, level_of, hops, all_packets}
use Rattle.meaning.specs.Conflict.{entry, conflict_table}
use Rattle.meaning.specs.Colour.{colours_used, depth, level_colours}
use Rattle.meaning.specs.Rounds.{Progress, holds, outside, clashes, joins, joined, owners_by_level, turn as turn_slots, by_level, slots_in, slots_of}
use Rattle.meaning.specs.Answer.{is_accepted, sheet_test}
use Rattle.laws.proofs.Turns.{for_each-one, some-none, some-where, same-or-other}
use Rattle.laws.proofs.Walk.{probe-least, probe-most, probe-yes, probe-at, reaches_here, reaches-on, climb-most}
use Rattle.laws.proofs.Slots.{Only, only-joined, and_left, and_right, never, true-or-false}
use Rattle.laws.proofs.Joining.{nobody-chosen, joined-long, joined-keep}
use Rattle.laws.proofs.Grounds.{level-least}
use Rattle.laws.proofs.Levels.{most-holds, table-conflicts, level-deep, depth-most, levels-proper}
use Rattle.limits.specs.Sent.{inflow, sent}
use Rattle.limits.specs.LineOfLevels.{line_lag}
use Rattle.limits.proofs.Sums.{zero-either, sum-zero}
use Rattle.limits.proofs.Served.{served, inflow-least, inflow-part}
use Rattle.limits.proofs.Sending.{inflow-add, inflow-same}
use Rattle.limits.proofs.Serving.{Owning, Kept, way, turn, after, more-sent, turn-sent, owner-sends, serves, slots-most}
use Rattle.limits.proofs.LevelLine as Line
use Rattle.limits.proofs.Branch.{Rooted, level-up}
use Rattle.limits.proofs.Lag.{most-over, lags, lag-levels, no-lag}
use Rattle.limits.proofs.OneLevel.{one-level}
use Rattle.limits.proofs.AcceptedYard as Yard

abbrev nobody : List Bool
nobody = replicate places false

module _ (relation : ℕ → ℕ → Bool) (may : ℕ → Bool) where
  chosen : ℕ → List Bool
  chosen k = joined k relation may nobody

  -- in its turn one that may is taken, or one that conflicts with it was
  taken-or-beside : (k p : ℕ) → k < p → k + 2 < places → may (k + 2) ≡ true
      → (x : ℕ) × (x < places) × (get_or (chosen p) x false ≡ true) × ((x ≡ k + 2) ⊎ (relation x (k + 2) ≡ true))
  unfolding chosen joined
  taken-or-beside k p h node m =
      ⊎_elim
      (λ (e : clashes relation (chosen k) (k + 2) ≡ true).
      let found = some-where places (λ x. get_or (chosen k) x false && relation x (k + 2)) e in
      let x = found.0 in (
        x,
        found.1,
        joined-keep relation may k p x nobody (omega arith) found.1 (and_left (get_or (chosen k) x false) (relation x (k + 2)) found.2),
        inr (and_right (get_or (chosen k) x false) (relation x (k + 2)) found.2),
      ))
      (λ (e : clashes relation (chosen k) (k + 2) ≡ false).
      let taken : get_or (chosen (k + 1)) (k + 2) false ≡ true =
      ap (λ (l : List Bool). get_or l (k + 2) false)
      (for_each-one k (λ j. joins relation may (j + 2)) nobody
      ∙ ap₂ (λ (a b : Bool). cond (a && not b) (set (chosen k) (k + 2) true) (chosen k)) m e)
      ∙ get_or-set_same (chosen k) (k + 2) true false (omega (arith, joined-long relation may k nobody)) in
      (k + 2, node, joined-keep relation may (k + 1) p (k + 2) nobody (omega arith) node taken, inl refl))
      (true-or-false (clashes relation (chosen k) (k + 2)))

  only-chosen : (p : ℕ) → Only may (chosen p)
  unfolding chosen
  only-chosen p = only-joined p relation may nobody (λ u h. never (sym (nobody-chosen 65 u) ∙ h))

module _ (s : List ℕ) (ok : is_accepted (sheet_test s) ≡ true) where
  abbrev colour : ℕ → ℕ
  colour v = get_or (level_colours s) (level_of s v) 0

  abbrev owners : ℕ → (ℕ → Bool) → List Bool
  owners = owners_by_level (probe_count s) (entry (conflict_table s)) colour

  only : (c : ℕ) (may : ℕ → Bool) → Only may (owners c may)
  unfolding owners_by_level chosen
  only c may v e = and_right (eqb (colour v) c) (may v) (only-chosen (entry (conflict_table s)) (λ u. eqb (colour u) c && may u) (probe_count s) v e)

  -- the way by level, by its owners
  abbrev by : Owning
  by = record { owners = owners; colours = colours_used (level_colours s); only = only }

  -- in its colour's turn a level that holds a packet owns the slot
  level-owns : (c : ℕ) (may : ℕ → Bool) (v : ℕ) → is_probe (probe_count s) v ≡ true → colour v ≡ c → may v ≡ true
      → (x : ℕ) × (is_probe (probe_count s) x ≡ true) × (level_of s x ≡ level_of s v) × (get_or (owners c may) x false ≡ true)
  unfolding owners_by_level chosen
  level-owns c may v h its m =
      let at = probe-at (probe_count s) v h in
      let last = probe-most (probe_count s) v h in
      let mine : ℕ → Bool = λ u. eqb (colour u) c && may u in
      let ready : mine (v - 2 + 2) ≡ true = subst (λ (u : ℕ). mine u ≡ true) (sym at.1) (ap₂ ◌&&◌ (eq-eqb (colour v) c its) m) in
      let found = taken-or-beside (entry (conflict_table s)) mine (v - 2) (probe_count s) at.0 (omega (arith, Yard.few s ok)) ready in
      let x = found.0 in
      ⊎_elim
      (λ (e : x ≡ v - 2 + 2).
      (x, subst (λ (u : ℕ). is_probe (probe_count s) u ≡ true) (sym (e ∙ at.1)) h, ap (level_of s) (e ∙ at.1), found.2))
      (λ (e : entry (conflict_table s) x (v - 2 + 2) ≡ true).
      let beside : entry (conflict_table s) x v ≡ true = subst (λ (u : ℕ). entry (conflict_table s) x u ≡ true) at.1 e in
      let its-colour : colour x ≡ c =
      eqb-true (colour x) c (and_left (eqb (colour x) c) (may x) (only-chosen (entry (conflict_table s)) mine (probe_count s) x found.2)) in
      let place = (table-conflicts s ok).within x v beside in (
        x,
        probe-yes (probe_count s) x place.0 (omega (arith, place.1)),
        one-level s ok x v beside (its-colour ∙ sym its),
        found.2,
      ))
      found.3

  -- what stands at a place of the line of levels
  online : (ℕ → ℕ) → ℕ → ℕ
  online many at = inflow (probe_count s) (λ v. level_of s v + 1) many at

  -- and from there on
  beyond : ℕ → ℕ
  beyond at = Line.from_line s ok (packets_of s) at

  -- what comes along the line
  along : (ℕ → ℕ) → ℕ → ℕ
  along many at = inflow (depth s) (λ m. m - 1) (online many) at

  along-next : (many : ℕ → ℕ) (at : ℕ) → is_probe (depth s) at ≡ true → along many at ≡ online (inflow (probe_count s) (parent_of s) many) at
  unfolding along online
  along-next many at h =
      let least = probe-least (depth s) at h in
      Line.line-flow (depth s) (online many) at h (Line.line-end s ok many)
      ∙ sym (Line.level-flow s ok many at least)

  beyond-parts : (at : ℕ) → is_probe (depth s) at ≡ true → beyond at ≡ online (packets_of s) at + inflow (depth s) (λ m. m - 1) beyond at
  unfolding beyond online
  beyond-parts at h =
      omega (
        arith,
        Line.line-parts s ok (packets_of s) at,
        Line.line-flow (depth s) beyond at h (Line.from_end s ok (packets_of s)),
      )

  beyond-first : beyond 2 ≡ sum_probes (probe_count s) (packets_of s)
  unfolding beyond
  beyond-first = Line.from_first s ok (packets_of s)

  online-first : (many : ℕ → ℕ) → online many 2 ≡ inflow (probe_count s) (parent_of s) many 1
  unfolding online
  online-first many = Line.line_first s ok many

  deep-enough : (k : ℕ) → k < probe_count s → 1 ≤ depth s
  deep-enough k h = omega (arith, level-least s ok (k + 2) (probe-yes (probe_count s) (k + 2) (omega arith) (omega arith)), level-deep s ok k h)

  module _ (at : ℕ) (h : is_probe (depth s) at ≡ true) where
    its : ℕ
    its = get_or (level_colours s) (at - 1) 0

    its-least : 1 ≤ its
    unfolding its
    its-least =
        let least = probe-least (depth s) at h in
        let last = probe-most (depth s) at h in
        (levels-proper s ok).inside (at - 1) (omega arith) (omega arith)

    its-most : its ≤ colours_used (level_colours s)
    unfolding its
    its-most =
        let last = probe-most (depth s) at h in
        most-holds places (λ u. get_or (level_colours s) u 0) (at - 1) (omega (arith, depth-most s ok, Yard.few s ok))

    -- a level that holds a packet has a probe that holds one
    holder : (now : Progress) → 1 ≤ online (λ v. get_or now.held v 0) at
        → (v : ℕ) × (is_probe (probe_count s) v ≡ true) × (level_of s v + 1 ≡ at) × (1 ≤ get_or now.held v 0)
    unfolding online inflow
    holder now any =
        let found = Line.sum-where (probe_count s) (λ k. cond (eqb (level_of s (k + 2) + 1) at) (get_or now.held (k + 2) 0) 0) any in
        let v : ℕ = found.0 + 2 in
        let probe : is_probe (probe_count s) v ≡ true = probe-yes (probe_count s) v (omega arith) (omega (arith, found.1)) in
        go v probe (eqb (level_of s v + 1) at) refl found.2
      where
        go : (v : ℕ) → is_probe (probe_count s) v ≡ true → (b : Bool) → eqb (level_of s v + 1) at ≡ b → 1 ≤ cond b (get_or now.held v 0) 0
            → (v : ℕ) × (is_probe (probe_count s) v ≡ true) × (level_of s v + 1 ≡ at) × (1 ≤ get_or now.held v 0)
        go v probe true e any = (v, probe, eqb-true (level_of s v + 1) at e, any)
        go v probe false e any = absurd (omega arith)

    owes : (now : Progress) → Kept Packets s ok by now → 1 ≤ online (λ v. get_or now.held v 0) at
        → online (sent now.slots) at + 1 ≤ online (sent (turn Packets s ok by (its - 1 + 1) now).slots) at
    unfolding online its
    owes now kept any =
        let c : ℕ = its - 1 + 1 in
        let found = holder now any in
        let v = found.0 in
        let may : holds now.held v ≡ true = lt-ltb 0 (get_or now.held v 0) found.3 in
        let back : its ≡ c = omega (arith, its-least) in
        let here : colour v ≡ c = ap (λ (l : ℕ). get_or (level_colours s) l 0) (omega (arith, found.2)) ∙ back in
        let owner = level-owns c (holds now.held) v found.1 here may in
        let x = owner.0 in
        let place = probe-at (probe_count s) x owner.1 in
        let slots : List (List ℕ) = turn_slots (way Packets s ok by) c now.held in
        let sends : 1 ≤ sent slots x =
        owner-sends (probe_count s) (entry (conflict_table s)) (holds now.held) (owners c (holds now.held)) x owner.1 owner.3 in
        let stands : eqb (level_of s (x - 2 + 2) + 1) at ≡ true =
        eq-eqb (level_of s (x - 2 + 2) + 1) at (omega (arith, ap (level_of s) place.1, owner.2, found.2)) in
        omega (
          arith,
          inflow-same (probe_count s) (λ u. level_of s u + 1) (sent (turn Packets s ok by c now).slots) (λ u. sent now.slots u + sent slots u) at
              (λ k _ _. turn-sent Packets s ok by c now (k + 2)),
          inflow-add (probe_count s) (λ u. level_of s u + 1) (sent now.slots) (sent slots) at,
          inflow-part (probe_count s) (λ u. level_of s u + 1) (sent slots) at (x - 2) place.0 stands,
          ap (sent slots) place.1,
          sends,
        )

    balanced : (now : Progress) → Kept Packets s ok by now
        → online (packets_of s) at + along (sent now.slots) at ≤ online (λ v. get_or now.held v 0) at + online (sent now.slots) at
    unfolding online
    balanced now kept =
        omega (
          arith,
          sym (inflow-add (probe_count s) (λ u. level_of s u + 1) (λ v. get_or now.held v 0) (sent now.slots) at)
              ∙ inflow-same (probe_count s) (λ u. level_of s u + 1) (λ v. get_or now.held v 0 + sent now.slots v)
              (λ v. packets_of s v + inflow (probe_count s) (parent_of s) (sent now.slots) v) at
              (λ k hk _. kept.balance (k + 2) (omega (arith, Yard.few s ok)))
              ∙ inflow-add (probe_count s) (λ u. level_of s u + 1) (packets_of s) (inflow (probe_count s) (parent_of s) (sent now.slots)) at,
          along-next (sent now.slots) at h,
        )

    grows : (c : ℕ) (now : Progress) → (n : ℕ) → online (sent now.slots) n ≤ online (sent (turn Packets s ok by c now).slots) n
    unfolding online
    grows c now n =
        inflow-least (probe_count s) (λ u. level_of s u + 1) (sent now.slots) (sent (turn Packets s ok by c now).slots) n
        (λ k _ _. more-sent Packets s ok by c now (k + 2))

    along-grows : (c : ℕ) (now : Progress) → along (sent now.slots) at ≤ along (sent (turn Packets s ok by c now).slots) at
    unfolding along
    along-grows c now =
        inflow-least (depth s) (λ m. m - 1) (online (sent now.slots)) (online (sent (turn Packets s ok by c now).slots)) at (λ k _ _. grows c now (k + 2))

    empty : (now : Progress) → Kept Packets s ok by now → outside (probe_count s) now.held ≡ false → online (λ v. get_or now.held v 0) at ≡ 0
    unfolding online inflow
    empty now kept none =
        sum-zero (probe_count s) (λ k. cond (eqb (level_of s (k + 2) + 1) at) (get_or now.held (k + 2) 0) 0)
        (λ k hk.
        let less = ltb-false 0 (get_or now.held (k + 2) 0) (some-none (probe_count s) (λ j. holds now.held (j + 2)) none k hk) in
        let nothing : get_or now.held (k + 2) 0 ≡ 0 = omega arith in
        ap (λ (n : ℕ). cond (eqb (level_of s (k + 2) + 1) at) n 0) nothing ∙ zero-either (eqb (level_of s (k + 2) + 1) at))

    serves-level : (r : ℕ) → min (online (sent (after Packets s ok by r).slots) at + 1) (online (packets_of s) at + along (sent (after Packets s ok by r).slots) at)
        ≤ online (sent (after Packets s ok by (suc r)).slots) at
    serves-level r =
        serves Packets s ok by (online (packets_of s) at) (λ now. online (λ v. get_or now.held v 0) at)
        (λ now. online (sent now.slots) at) (λ now. along (sent now.slots) at) balanced (λ c now. (grows c now at, along-grows c now)) empty
        (its - 1) (omega (arith, its-least, its-most)) owes r

  -- the levels, one below the other, are a yard too
  arrives-line : (left at : ℕ) → 1 ≤ at → at ≤ left + 1 → reaches (λ m. m - 1) 1 left at ≡ true
  arrives-line zero at from to = reaches_here (λ m. m - 1) 1 0 at (omega arith)
  arrives-line (suc left) at from to =
      ⊎_elim (λ (one : at ≡ 1). reaches_here (λ m. m - 1) 1 (suc left) at one)
      (λ (more : at ≢ 1). reaches-on (λ m. m - 1) 1 left at more ∙ arrives-line left (at - 1) (omega arith) (omega arith))
      (same-or-other at 1)

  line : Rooted (depth s) (λ m. m - 1)
  line =
      record {
        inside = λ v h. (omega (arith, probe-least (depth s) v h), omega (arith, probe-most (depth s) v h));
        arrives = λ v h. arrives-line (depth s) v (omega (arith, probe-least (depth s) v h)) (probe-most (depth s) v h);
        gateway = refl;
        nowhere = refl;
      }

  -- how far a place of the line may be behind
  behind : ℕ → ℕ
  behind at = branch_lag (depth s) (λ m. m - 1) (online (packets_of s)) at

  -- after as many rounds as there are packets, and as it may be behind, each level has sent all from there on
  all-sent : (at : ℕ) → is_probe (depth s) at ≡ true → (r : ℕ) → min (beyond at) (r - behind at) ≤ online (sent (after Packets s ok by r).slots) at
  unfolding along behind
  all-sent at h r =
      served (depth s) (λ m. m - 1) (online (packets_of s)) beyond behind (λ i n. online (sent (after Packets s ok by i).slots) n)
      (λ n hn. omega (arith, beyond-parts n hn))
      (λ c hc _. lags (depth s) (λ m. m - 1) (online (packets_of s)) line c hc)
      (λ i n hn. serves-level n hn i)
      r at h

  abbrev enough : ℕ
  enough = all_packets s + line_lag s

  all-home : sum_probes (probe_count s) (packets_of s) ≤ inflow (probe_count s) (parent_of s) (sent (after Packets s ok by enough).slots) 1
  unfolding all_packets line_lag behind online
  all-home = go (dec_le 1 (depth s))
    where
      go : Dec (1 ≤ depth s) → sum_probes (probe_count s) (packets_of s) ≤ inflow (probe_count s) (parent_of s) (sent (after Packets s ok by enough).slots) 1
      go (yes l) =
          omega (
            arith,
            all-sent 2 (probe-yes (depth s) 2 (omega arith) (omega arith)) enough,
            beyond-first,
            online-first (sent (after Packets s ok by enough).slots),
          )
      go (no l) =
          let none : sum_probes (probe_count s) (packets_of s) ≡ 0 =
          sum-zero (probe_count s) (λ k. packets_of s (k + 2))
          (λ k hk. absurd (l (deep-enough k hk))) in
          omega (arith, none)

  -- demand 3, by level
  pub by-level-most : length (slots_of s (by_level s)) ≤ colours_used (level_colours s) * (all_packets s + line_lag s)
  unfolding slots_in by_level
  by-level-most = slots-most Packets s ok by enough (hops s) all-home

  -- by the depth
  line-levels : line_lag s ≤ depth s - 1
  unfolding line_lag
  line-levels =
      let two : 2 ≤ 2 = omega arith in
      omega (
        arith,
        lag-levels (depth s) (λ m. m - 1) (λ at. inflow (probe_count s) (λ v. level_of s v + 1) (packets_of s) at) line 2 two,
        most-over (depth s) (λ v. cond (reaches (λ m. m - 1) 2 (depth s) v) (climb (λ m. m - 1) (depth s) v - climb (λ m. m - 1) (depth s) 2) 0) (depth s - 1)
            (λ v h. go v h (reaches (λ m. m - 1) 2 (depth s) v)),
      )
    where
      first : 1 ≤ depth s → climb (λ m. m - 1) (depth s) 2 ≡ suc (climb (λ m. m - 1) (depth s) 1)
      first deep = level-up (depth s) (λ m. m - 1) line 2 (probe-yes (depth s) 2 (omega arith) (omega arith))

      go : (v : ℕ) → is_probe (depth s) v ≡ true → (b : Bool)
          → cond b (climb (λ m. m - 1) (depth s) v - climb (λ m. m - 1) (depth s) 2) 0 ≤ depth s - 1
      go v h true =
          let deep : 1 ≤ depth s = omega (arith, probe-least (depth s) v h, probe-most (depth s) v h) in
          omega (arith, climb-most (λ m. m - 1) (depth s) v, first deep)
      go v h false = omega arith

  pub by-level-depth : length (slots_of s (by_level s)) ≤ colours_used (level_colours s) * (all_packets s + (depth s - 1))
  by-level-depth =
      let more : all_packets s + line_lag s ≤ all_packets s + (depth s - 1) = omega (arith, line-levels) in
      omega (arith, by-level-most, mul-le-mul_left (colours_used (level_colours s)) more)

  -- and, where every probe has a packet, by the packets alone
  pub by-level-packets : ((v : ℕ) → is_probe (probe_count s) v ≡ true → 1 ≤ packets_of s v)
      → length (slots_of s (by_level s)) ≤ colours_used (level_colours s) * all_packets s
  unfolding line_lag
  by-level-packets some =
      let two : 2 ≤ 2 = omega arith in
      let none = no-lag (depth s) (λ m. m - 1) (λ at. inflow (probe_count s) (λ v. level_of s v + 1) (packets_of s) at) line 2 two
      (λ at h. Line.line-some s ok (packets_of s) some at h) in
      let more : all_packets s + line_lag s ≤ all_packets s = omega (arith, none) in
      omega (arith, by-level-most, mul-le-mul_left (colours_used (level_colours s)) more)
