-- The limits are attained, computed from the definitions: in the yard of one probe with fifteen packets the slots are the limits themselves, and
-- also in two yards with relays; in a chain of two our plan has the fewest slots of any, more than there are packets, and the colours are one more
-- than the largest degree. So none of the upper limits can be one less, and the lower one not one more.
use mathlib.Core.Bool.{Bool, ◌&&◌}
use mathlib.Core.List.{List, [], ◌∷◌}
use Prim.Native.Nat.{ℕ, ◌+◌, ◌-◌, ◌*◌}
use lib.Dec.{T, eqb, ltb}
use Rattle.meaning.specs.declared.Planned.{Planned}
use Rattle.meaning.specs.declared.Verdict.{Verdict}
use Rattle.meaning.specs.Words.{for_each, some, sum, most, tab, probes_that}
use Rattle.meaning.specs.Yard.{reaches, climb, climbed, lag_on}
use Rattle.meaning.specs.Sheet.{parent_of, packets_of, level_of, hops, all_packets, slowest, least_slots, interfere}
use Rattle.meaning.specs.Plan.{slot_bytes, plan_bytes}
use Rattle.meaning.specs.Conflict.{disturb, conflict, conflict_table, largest_degree}
use Rattle.meaning.specs.Colour.{smallest_free, next_of, coloured_by, probe_colours, levels_conflict, levels, depth, level_colours}
use Rattle.meaning.specs.Rounds.{joined, owners_by_probe, owners_by_level, slot_of, turn_of, moved, held_after, recorded, round, rounds, by_probe, by_level, slots_in, slots_of}
use Rattle.meaning.specs.Answer.{is_accepted, ◌then◌, in_order, probe_test, walk_test, pair_test, counts_test, sheet_test, plan_test_in, plan_made_in, plan_made}
use Rattle.meaning.specs.Judge.{slot_test, slot_judged, slots_judged, plan_judged_by, plan_judged, judge_in, judge}

abbrev pub lone : List ℕ
lone = 1 ∷ 1 ∷ 15 ∷ 0 ∷ 0 ∷ []

-- a probe with a packet, and one below it with another
abbrev pub chain-of-two : List ℕ
chain-of-two = 2 ∷ 1 ∷ 1 ∷ 2 ∷ 1 ∷ 0 ∷ 0 ∷ []

-- a relay, and a probe with four packets
abbrev pub beside-a-relay : List ℕ
beside-a-relay = 2 ∷ 1 ∷ 0 ∷ 1 ∷ 4 ∷ 0 ∷ 0 ∷ []

-- a relay with a packet below it, and a probe with one of its own and one below it: the slowest branches are that of the relay, which lags, and the other
abbrev pub below-a-relay : List ℕ
below-a-relay = 4 ∷ 1 ∷ 0 ∷ 1 ∷ 1 ∷ 2 ∷ 1 ∷ 3 ∷ 1 ∷ 0 ∷ 0 ∷ []

-- by probe, a plan with as many slots as its colours times the packets and the lag of the slowest branch
abbrev pub by-probe-tight : List ℕ → Planned → Bool
by-probe-tight s r = is_accepted r.outcome && eqb r.slots (r.colours * slowest s)

-- by level, one with as many as its colours times all packets and the depth less one
abbrev pub by-level-tight : List ℕ → Planned → Bool
by-level-tight s r = is_accepted r.outcome && eqb r.slots (r.colours * (all_packets s + (depth s - 1)))

-- a passed plan with no more slots than any plan must have
abbrev pub least-tight : List ℕ → Verdict → Bool
least-tight s v = is_accepted v.outcome && eqb v.slots (least_slots s)

-- as many colours as the largest degree and one
abbrev pub colours-tight : List ℕ → Planned → Bool
colours-tight s r = is_accepted r.outcome && eqb r.colours (largest_degree s + 1)

-- and, by probe, a plan as long as that many times a passed one
abbrev pub degree-tight : List ℕ → Planned → Verdict → Bool
degree-tight s r v = is_accepted v.outcome && eqb r.slots ((largest_degree s + 1) * v.slots)

-- our plan by probe, judged
abbrev pub ours-judged : List ℕ → Verdict
ours-judged s = judge s (plan_bytes (slots_of s (by_probe s)))

-- each limit with a yard that attains it
abbrev pub attains : Bool
attains =
    by-probe-tight lone (plan_made by_probe lone 32).answer
    && by-probe-tight below-a-relay (plan_made by_probe below-a-relay 12).answer
    && by-level-tight lone (plan_made by_level lone 32).answer
    && by-level-tight beside-a-relay (plan_made by_level beside-a-relay 10).answer
    && least-tight lone (ours-judged lone)
    && least-tight chain-of-two (ours-judged chain-of-two)
    && ltb (all_packets chain-of-two) (least_slots chain-of-two)
    && colours-tight chain-of-two (plan_made by_probe chain-of-two 8).answer
    && degree-tight lone (plan_made by_probe lone 32).answer (ours-judged lone)

pub attained : T attains
unfolding for_each some sum most tab probes_that reaches climb climbed lag_on parent_of packets_of level_of hops all_packets slowest least_slots interfere slot_bytes
    disturb conflict conflict_table smallest_free next_of coloured_by probe_colours levels_conflict levels depth level_colours
    joined owners_by_probe owners_by_level slot_of turn_of moved held_after recorded round rounds by_probe by_level slots_in
    ◌then◌ in_order probe_test walk_test pair_test counts_test sheet_test plan_test_in plan_made_in
    slot_test slot_judged slots_judged plan_judged_by plan_judged judge_in
attained = tt
