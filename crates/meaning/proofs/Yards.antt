-- RULES, "Yards to try": the yards that are proved, as rows of one table under one claim, computed from the definitions. For each
-- number there is its least case and the case beside it, for each two tests an input to which both apply. What takes few steps stands first: a wrong
-- definition is then refused soon, and one claim has no more than fifty million steps.
use mathlib.Core.Bool.{Bool, true, false, ◌&&◌}
use mathlib.Core.List.{List, [], ◌∷◌, ◌++◌}
use Prim.Native.Nat.{ℕ, suc, ◌+◌}
use Prim.Native.String.{String}
use lib.Dec.{T, eqb}
use lib.ListN.{take, drop, replicate}
use Rattle.meaning.specs.declared.Mode.TheVariants.{Packets}
use Rattle.meaning.specs.declared.Outcome.{Outcome}
use Rattle.meaning.specs.declared.Planned.{Planned}
use Rattle.meaning.specs.declared.Told.{Told}
use Rattle.meaning.specs.declared.Verdict.{Verdict}
use Rattle.meaning.specs.declared.Names.{Names}
use Rattle.meaning.specs.Returned.{Tested}
use Rattle.meaning.specs.declared.Judgement.{Judgement}
use Rattle.meaning.specs.Words.{Bytes, for_each, some, least, sum, most, tab, places, probes_that}
use Rattle.meaning.specs.Yard.{reaches, climb, climbed, lag_on}
use Rattle.meaning.specs.Sheet.{two_at, probe_count, parent_of, packets_of, level_of, hops, all_packets, heaviest, longest, slowest, least_slots, interfere}
use Rattle.meaning.specs.Plan.{two_bytes, slot_bytes, slots_from, room_for, front}
use Rattle.meaning.specs.Conflict.{disturb, conflict, table_of, entry, conflict_table, largest_degree}
use Rattle.meaning.specs.Colour.{smallest_free, next_of, coloured_by, probe_colours, levels_conflict, levels, depth, level_colours}
use Rattle.meaning.specs.Rounds.{Way, joined, owners_by_probe, owners_by_level, slot_of, turn_of, moved, held_after, recorded, round, rounds, by_probe, by_level, slots_in}
use Rattle.meaning.specs.Answer.{accepted, ◌then◌, in_order, probe_test, walk_test, pair_test, counts_test, sheet_test, plan_test_in, plan_made_in, plan_made}
use Rattle.meaning.specs.Judge.{Judging, slot_test, two_names, slot_names, slot_tested, slot_judged, slots_judged, plan_judged_by, plan_judged}
use Rattle.meaning.specs.Judge.{judge_in, judge, plan_names_by, plan_names, judgement_in, judgement, choice, handed_back}
use Rattle.meaning.specs.Lister.{text, decimal, numbers_line, senders_text, refusal_line, slot_line, slot_lines, list, listing}
use Rattle.meaning.specs.Telephone.{times_any, asked}
use Rattle.meaning.proofs.RowBytes.{digit, pairs, hex, many, same}

-- what a row says of the sheet that it begins with. `tested` gives number and place. `conflicts` gives for each probe those that it conflicts
-- with, `level_conflicts` the same of levels. A planner's row gives the length of the buffer lent, whose bytes are all `ee`; then number, place, colours, slots and bytes written; then
-- the whole buffer afterwards. A judge's row gives the plan; then number, place and slots; `named` gives both names too; `tested_slot` gives the senders of
-- slot 7, sent first; then number, place and both names; `holding` gives a plan, and what the nodes from 0 on hold after its slots. A row of branches gives the
-- heaviest, the longest and the slowest; then come the fewest slots of any plan and the largest degree; the telephone's number and place, then the slots at least, in our plan, and at
-- most, and how many times anybody's ours is; the last also of colours, our slots and the fewest. A plan's slots, a count's bytes, and a number's and a slot's text stand by themselves
pub data Row : Type 0 where
  tested : String → ℕ → ℕ → Row
  room : String → ℕ → Row
  conflicts : String → List (List ℕ) → Row
  colours_of_probes : String → List ℕ → Row
  level_conflicts : String → List (List ℕ) → Row
  colours_of_levels : String → List ℕ → Row
  plan_by_probe : String → ℕ → List ℕ → String → Row
  plan_by_level : String → ℕ → List ℕ → String → Row
  judged : String → String → List ℕ → Row
  named : String → String → List ℕ → Row
  tested_slot : String → List ℕ → List ℕ → Row
  holding : String → String → List ℕ → Row
  chosen : String → String → String → String → Row
  listed : String → String → Row
  branches : String → List ℕ → Row
  how_often : ℕ → ℕ → ℕ → ℕ → Row
  fewest : String → ℕ → Row
  most_conflicts : String → ℕ → Row
  asked_for : String → List ℕ → Row
  count_bytes : ℕ → String → Row
  slots_read : String → List (List ℕ) → Row
  number_text : ℕ → String → Row
  refusal_text : ℕ → ℕ → String → Row
  numbers_text : ℕ → ℕ → ℕ → ℕ → ℕ → String → Row
  slot_text : ℕ → List ℕ → String → Row

planner : (Bytes → Way) → Bytes → ℕ → Bytes
planner by s lent = let made = plan_made by s lent in numbers made.answer ++ front (replicate lent 0xee) made.written
  where
    numbers : Planned → List ℕ
    numbers r = r.outcome.number ∷ r.outcome.place ∷ r.colours ∷ r.slots ∷ r.bytes ∷ []

verdict : Verdict → List ℕ
verdict r = r.outcome.number ∷ r.outcome.place ∷ r.slots ∷ []

names : Names → List ℕ
names r = r.first ∷ r.second ∷ []

told : Told → List ℕ
told r = r.outcome.number ∷ r.outcome.place ∷ r.least ∷ r.ours ∷ r.most ∷ r.times ∷ []

alike : List (List ℕ) → List (List ℕ) → Bool
alike [] [] = true
alike [] (y ∷ ys) = false
alike (x ∷ xs) [] = false
alike (x ∷ xs) (y ∷ ys) = same x y && alike xs ys

-- the places of a row's flags that are up, where the row begins at place k
up : ℕ → List Bool → List ℕ
up k [] = []
up k (true ∷ flags) = k ∷ up (suc k) flags
up k (false ∷ flags) = up (suc k) flags

-- row by row, a table has just these flags up, and none in the rows behind them
says : List (List Bool) → List (List ℕ) → Bool
says [] [] = true
says [] (places ∷ more) = false
says (row ∷ rows) [] = same (up 0 row) [] && says rows []
says (row ∷ rows) (places ∷ more) = same (up 0 row) places && says rows more

-- the definitions answer what the row says
pub true-row : Row → Bool
true-row (tested sheet number place) = gives (sheet_test (hex sheet))
  where
    gives : Outcome → Bool
    gives outcome = eqb outcome.number number && eqb outcome.place place
true-row (room sheet bytes) = eqb (room_for (hops (hex sheet))) bytes
true-row (conflicts sheet rows) = says (conflict_table (hex sheet)) ([] ∷ [] ∷ rows)
true-row (colours_of_probes sheet colours) = same (take (probe_count (hex sheet)) (drop 2 (probe_colours (hex sheet)))) colours
true-row (level_conflicts sheet rows) = says (table_of (levels_conflict (probe_count s) (level_of s) (entry (conflict_table s)))) ([] ∷ rows)
  where
    s : List ℕ
    s = hex sheet
true-row (colours_of_levels sheet colours) = same (take (depth (hex sheet)) (drop 1 (level_colours (hex sheet)))) colours
true-row (plan_by_probe sheet lent numbers after) = same (planner by_probe (hex sheet) lent) (numbers ++ hex after)
true-row (plan_by_level sheet lent numbers after) = same (planner by_level (hex sheet) lent) (numbers ++ hex after)
true-row (judged sheet plan numbers) = same (verdict (judge (hex sheet) (hex plan))) numbers
true-row (named sheet plan numbers) = same (answered (judgement (hex sheet) (hex plan))) numbers
  where
    answered : Judgement → List ℕ
    answered r = verdict r.verdict ++ names r.names
true-row (tested_slot sheet slot numbers) =
    same (answered (slot_tested (probe_count s) (entry (conflict_table s)) (tab places (packets_of s)) 7 slot)) numbers
  where
    s : List ℕ
    s = hex sheet

    answered : Tested → List ℕ
    answered r = r.outcome.number ∷ r.outcome.place ∷ names r.names
true-row (holding sheet plan packets) = same (take (probe_count s + 2) (slots_judged Packets (probe_count s) (parent_of s) (entry (conflict_table s)) bytes (two_at bytes 0) start).held) packets
  where
    s : List ℕ
    s = hex sheet

    bytes : List ℕ
    bytes = hex plan

    start : Judging
    start = record { outcome = accepted; at = 2; held = tab places (packets_of s) }
true-row (chosen sheet a b handed) = same (handed_back (choice (hex sheet) (hex a) (hex b)) (hex a) (hex b)) (hex handed)
true-row (listed sheet printed) = same (listing (hex sheet)) (text printed)
true-row (branches sheet numbers) = same (heaviest (hex sheet) ∷ longest (hex sheet) ∷ slowest (hex sheet) ∷ []) numbers
true-row (how_often colours ours least-slots times) = eqb (times_any colours ours least-slots) times
true-row (fewest sheet slots) = eqb (least_slots (hex sheet)) slots
true-row (most_conflicts sheet probes) = eqb (largest_degree (hex sheet)) probes
true-row (asked_for sheet numbers) = same (told (asked (hex sheet))) numbers
true-row (count_bytes number written) = same (two_bytes number) (hex written)
true-row (slots_read plan slots) = alike (slots_from (hex plan) 2 (two_at (hex plan) 0)) slots
true-row (number_text number printed) = same (decimal 5 number) (text printed)
true-row (refusal_text number place printed) = same (refusal_line (record { number = number; place = place })) (text printed)
true-row (numbers_text colours slots packets most least-slots printed) = same (numbers_line colours slots packets most least-slots) (text printed)
true-row (slot_text number slot printed) = same (slot_line number slot) (text printed)

pub all_true : List Row → Bool
all_true [] = true
all_true (row ∷ rows) = true-row row && all_true rows

A : String
A = "03 01 01 02 01 01 01 00 00"

A-with-a-pair : String
A-with-a-pair = "03 01 01 02 01 01 01 00 01 02 04"

chain : String
chain = "03 01 01 02 01 03 01 00 00"

-- the same with the numbers turned round, 2 the farthest
turned : String
turned = "03 03 01 04 01 01 01 00 00"

ring : String
ring = "02 03 01 02 01 00 00"

-- a lone packet below three relays
below-relays : String
below-relays = "04 01 00 02 00 03 00 04 01 00 00"

-- levels one below the other, so that the middle one has the most neighbours
five : String
five = "05 01 01 02 01 03 01 04 01 05 01 00 00"

-- three arms of two probes: 5 under 2, 6 under 3, 7 under 4; with pairs as they follow
arms : String → String
arms pairs = many 1 "06 01 01 01 01 01 01 02 01 03 01 04 01 " pairs

-- four such arms, 6 to 9 under 2 to 5, in which 6 disturbs the parent of 9, and 7 that of 8
four-arms : String
four-arms = "08 01 01 01 01 01 01 01 01 02 01 03 01 04 01 05 01 00 02 04 07 05 06"

-- branches of several levels and packets, and the pair 3, 5
mixed : String
mixed = "06 01 02 02 03 02 04 01 01 03 02 05 01 00 01 03 05"

-- p probes next to the gateway, one packet each, and what follows
star : ℕ → String → String → String
star p count rest = many 1 count (many p "01 01 " rest)

pub yards : List Row
yards =
    -- the sheet's counts: 1 where something is missing, 2 where p or q is too large, 3 where a byte follows
    tested "" 1 0
    ∷ tested "00" 1 0
    ∷ tested "00 00" 1 0
    ∷ tested "00 01" 1 0
    ∷ tested "00 00 00" 0 0
    ∷ tested "00 00 00 00" 3 0
    ∷ tested "01 01 01 00" 1 0
    ∷ tested "01 01 01 00 00" 0 0
    ∷ tested "01 01 01 00 01 01" 1 0
    ∷ tested "01 01 01 00 01 01 02" 0 0
    ∷ tested "01 01 01 00 01 01 02 00" 3 0
    ∷ tested "01 01 01 00 02" 2 0
    ∷ tested "40" 2 0
    ∷ tested (star 63 "3f " "00 00") 0 0
    ∷ tested (star 64 "40 " "00 00") 2 0
    ∷ tested (star 63 "3f " "07 e0") 1 0
    ∷ tested (star 63 "3f " "07 e1") 2 0
    -- 2 comes before 1, and 3 before 4
    ∷ tested "01 01 01 ff ff" 2 0
    ∷ tested "01 00 01 00 00 00" 3 0
    -- 4: the parent is 0, above n, or the probe itself; 4 before 5 in one probe, and both before the next probe
    ∷ tested "01 00 01 00 00" 4 2
    ∷ tested "01 03 01 00 00" 4 2
    ∷ tested "01 02 01 00 00" 4 2
    ∷ tested "02 03 01 01 01 00 00" 0 0
    ∷ tested "02 01 01 04 01 00 00" 4 3
    ∷ tested "02 01 01 03 01 00 00" 4 3
    ∷ tested "01 00 10 00 00" 4 2
    ∷ tested "02 01 10 00 01 00 00" 5 2
    -- 5: packets above 15; a relay has none
    ∷ tested "01 01 00 00 00" 0 0
    ∷ tested "01 01 0f 00 00" 0 0
    ∷ tested "01 01 10 00 00" 5 2
    ∷ tested "02 01 01 01 10 00 00" 5 3
    -- 6: the first probe that never arrives, behind 4 and 5 of all probes; a walk may take p hops
    ∷ tested ring 6 2
    ∷ tested "03 01 01 04 01 03 01 00 00" 6 3
    ∷ tested "03 03 01 02 01 01 10 00 00" 5 4
    ∷ tested chain 0 0
    ∷ tested turned 0 0
    -- 6 before 7; 7: a is 0, a ≥ b, or b above n; the place is the pair's
    ∷ tested "02 03 01 02 01 00 01 00 01" 6 2
    ∷ tested "01 01 01 00 01 00 02" 7 1
    ∷ tested "01 01 01 00 01 02 02" 7 1
    ∷ tested "01 01 01 00 01 02 01" 7 1
    ∷ tested "01 01 01 00 01 01 03" 7 1
    ∷ tested "02 01 01 01 01 00 02 01 02 02 02" 7 2
    -- 8: not above the one before, by a and then by b; 7 before 8 in one pair, and both before the next pair
    ∷ tested "02 01 01 01 01 00 03 01 02 01 03 02 03" 0 0
    ∷ tested "03 01 01 01 01 01 01 00 02 01 04 02 03" 0 0
    ∷ tested "02 01 01 01 01 00 02 01 02 01 02" 8 2
    ∷ tested "02 01 01 01 01 00 02 01 03 01 02" 8 2
    ∷ tested "02 01 01 01 01 00 02 02 03 01 03" 8 2
    ∷ tested "03 01 01 01 01 01 01 00 02 02 03 01 04" 8 2
    ∷ tested "03 01 01 01 01 01 01 00 03 01 02 01 04 01 03" 8 3
    ∷ tested "02 01 01 01 01 00 02 01 03 01 01" 7 2
    ∷ tested "02 01 01 01 01 00 03 01 03 01 02 00 01" 8 2
    -- conflicts: parent and child, children of one parent, a probe and its grandchild, whichever has the smaller number
    ∷ conflicts A ((3 ∷ 4 ∷ []) ∷ (2 ∷ []) ∷ (2 ∷ []) ∷ [])
    ∷ conflicts chain ((3 ∷ 4 ∷ []) ∷ (2 ∷ 4 ∷ []) ∷ (2 ∷ 3 ∷ []) ∷ [])
    ∷ conflicts turned ((3 ∷ 4 ∷ []) ∷ (2 ∷ 4 ∷ []) ∷ (2 ∷ 3 ∷ []) ∷ [])
    ∷ conflicts five ((3 ∷ 4 ∷ []) ∷ (2 ∷ 4 ∷ 5 ∷ []) ∷ (2 ∷ 3 ∷ 5 ∷ 6 ∷ []) ∷ (3 ∷ 4 ∷ 6 ∷ []) ∷ (4 ∷ 5 ∷ []) ∷ [])
    -- a pair with the other's parent, either way round; a pair of two that are no parents adds nothing, and neither does one that is a link
    ∷ conflicts A-with-a-pair ((3 ∷ 4 ∷ []) ∷ (2 ∷ 4 ∷ []) ∷ (2 ∷ 3 ∷ []) ∷ [])
    ∷ conflicts "03 01 01 01 01 02 01 00 01 02 03" ((3 ∷ 4 ∷ []) ∷ (2 ∷ 4 ∷ []) ∷ (2 ∷ 3 ∷ []) ∷ [])
    ∷ conflicts "03 01 01 01 01 03 01 00 01 02 03" ((3 ∷ 4 ∷ []) ∷ (2 ∷ 4 ∷ []) ∷ (2 ∷ 3 ∷ []) ∷ [])
    ∷ conflicts (arms "00 01 02 07") ((3 ∷ 4 ∷ 5 ∷ []) ∷ (2 ∷ 4 ∷ 6 ∷ []) ∷ (2 ∷ 3 ∷ 7 ∷ []) ∷ (2 ∷ 7 ∷ []) ∷ (3 ∷ []) ∷ (4 ∷ 5 ∷ []) ∷ [])
    ∷ conflicts (arms "00 01 05 06") ((3 ∷ 4 ∷ 5 ∷ []) ∷ (2 ∷ 4 ∷ 6 ∷ []) ∷ (2 ∷ 3 ∷ 7 ∷ []) ∷ (2 ∷ []) ∷ (3 ∷ []) ∷ (4 ∷ []) ∷ [])
    ∷ conflicts "03 01 01 02 01 01 01 00 02 01 02 02 03" ((3 ∷ 4 ∷ []) ∷ (2 ∷ []) ∷ (2 ∷ []) ∷ [])
    -- levels conflict where some of their probes do, and never with themselves
    ∷ level_conflicts five ((2 ∷ 3 ∷ []) ∷ (1 ∷ 3 ∷ 4 ∷ []) ∷ (1 ∷ 2 ∷ 4 ∷ 5 ∷ []) ∷ (2 ∷ 3 ∷ 5 ∷ []) ∷ (3 ∷ 4 ∷ []) ∷ [])
    ∷ level_conflicts (star 4 "04 " "00 00") []
    -- room: packets times level
    ∷ room "00 00 00" 2
    ∷ room "02 01 02 02 03 00 00" 18
    ∷ room mixed 52
    -- a count of slots, high byte first
    ∷ slots_read "00 02 02 02 03 01 04" ((2 ∷ 3 ∷ []) ∷ (4 ∷ []) ∷ [])
    ∷ count_bytes 255 "00 ff"
    ∷ count_bytes 256 "01 00"
    ∷ count_bytes 30240 "76 20"
    -- the judge takes the sheet first; 11 in the count has place 0, else the slot's; 11 before 12
    ∷ judged ring "" (6 ∷ 2 ∷ 0 ∷ [])
    ∷ judged A "" (11 ∷ 0 ∷ 0 ∷ [])
    ∷ judged A "00" (11 ∷ 0 ∷ 0 ∷ [])
    ∷ judged A "00 01" (11 ∷ 1 ∷ 0 ∷ [])
    ∷ judged A "00 01 01" (11 ∷ 1 ∷ 0 ∷ [])
    ∷ judged A "00 02 01 02 02 03" (11 ∷ 2 ∷ 0 ∷ [])
    ∷ judged A "01 00 01 02" (11 ∷ 2 ∷ 0 ∷ [])
    ∷ judged A "00 01 02 09" (11 ∷ 1 ∷ 0 ∷ [])
    -- 12: a sender below 2 or above n; over the whole slot before 13; the first such is named, by its byte
    ∷ named A "00 01 01 00" (12 ∷ 1 ∷ 0 ∷ 0 ∷ 0 ∷ [])
    ∷ named A "00 01 02 01 02" (12 ∷ 1 ∷ 0 ∷ 1 ∷ 0 ∷ [])
    ∷ named A "00 01 01 05" (12 ∷ 1 ∷ 0 ∷ 5 ∷ 0 ∷ [])
    ∷ named A "00 01 01 c8" (12 ∷ 1 ∷ 0 ∷ 200 ∷ 0 ∷ [])
    ∷ judged A "00 01 01 04" (17 ∷ 1 ∷ 0 ∷ [])
    ∷ named A "00 02 01 02 01 05" (12 ∷ 2 ∷ 0 ∷ 5 ∷ 0 ∷ [])
    ∷ judged (star 63 "3f " "00 00") "00 01 01 40" (17 ∷ 1 ∷ 0 ∷ [])
    ∷ named A "00 01 03 04 03 05" (12 ∷ 1 ∷ 0 ∷ 5 ∷ 0 ∷ [])
    ∷ named A "00 01 04 04 09 03 05" (12 ∷ 1 ∷ 0 ∷ 9 ∷ 0 ∷ [])
    -- 13: equal or falling, also at the end of a slot; before 14; the later of the first two is named
    ∷ named A "00 02 01 02 02 03 03" (13 ∷ 2 ∷ 0 ∷ 3 ∷ 0 ∷ [])
    ∷ named A "00 01 02 04 03" (13 ∷ 1 ∷ 0 ∷ 3 ∷ 0 ∷ [])
    ∷ named A "00 01 03 02 04 03" (13 ∷ 1 ∷ 0 ∷ 3 ∷ 0 ∷ [])
    ∷ named A "00 02 01 03 02 03 03" (13 ∷ 2 ∷ 0 ∷ 3 ∷ 0 ∷ [])
    ∷ named A "00 01 04 04 03 04 02" (13 ∷ 1 ∷ 0 ∷ 3 ∷ 0 ∷ [])
    -- 14: no packet before the slot, first or last sender; before 15; the first such is named
    ∷ named A "00 02 01 03 02 03 04" (14 ∷ 2 ∷ 0 ∷ 3 ∷ 0 ∷ [])
    ∷ named A "00 02 01 04 02 03 04" (14 ∷ 2 ∷ 0 ∷ 4 ∷ 0 ∷ [])
    ∷ named A "00 02 01 02 02 02 03" (14 ∷ 2 ∷ 0 ∷ 2 ∷ 0 ∷ [])
    ∷ named A "00 02 02 03 04 02 03 04" (14 ∷ 2 ∷ 0 ∷ 3 ∷ 0 ∷ [])
    ∷ named A "00 03 01 02 01 03 02 02 03" (14 ∷ 3 ∷ 0 ∷ 3 ∷ 0 ∷ [])
    -- 15: the first and the last of three, the first two, the last two; slots in order, and slots before 16
    ∷ named A "00 01 02 02 04" (15 ∷ 1 ∷ 0 ∷ 2 ∷ 4 ∷ [])
    ∷ named turned "00 01 02 02 04" (15 ∷ 1 ∷ 0 ∷ 2 ∷ 4 ∷ [])
    ∷ named (arms "00 01 02 07") "00 01 03 05 06 07" (15 ∷ 1 ∷ 0 ∷ 5 ∷ 7 ∷ [])
    ∷ named (arms "00 01 02 06") "00 01 03 05 06 07" (15 ∷ 1 ∷ 0 ∷ 5 ∷ 6 ∷ [])
    ∷ named (arms "00 01 03 07") "00 01 03 05 06 07" (15 ∷ 1 ∷ 0 ∷ 6 ∷ 7 ∷ [])
    ∷ judged (arms "00 01 05 06") "00 01 03 05 06 07" (17 ∷ 1 ∷ 0 ∷ [])
    ∷ named A "00 02 01 03 02 02 04" (15 ∷ 2 ∷ 0 ∷ 2 ∷ 4 ∷ [])
    ∷ named A "00 02 02 02 04 01 05" (15 ∷ 1 ∷ 0 ∷ 2 ∷ 4 ∷ [])
    ∷ named A "00 01 02 02 04 00" (15 ∷ 1 ∷ 0 ∷ 2 ∷ 4 ∷ [])
    -- of several pairs the lowest by the smaller, though 7 and 8 end sooner than 6 and 9, and then by the larger
    ∷ named four-arms "00 01 04 06 07 08 09" (15 ∷ 1 ∷ 0 ∷ 6 ∷ 9 ∷ [])
    ∷ named A "00 01 03 02 03 04" (15 ∷ 1 ∷ 0 ∷ 2 ∷ 3 ∷ [])
    -- elsewhere nobody is named: in the sheet, 11, 16, 17, passed
    ∷ named ring "00 01 01 09" (6 ∷ 2 ∷ 0 ∷ 0 ∷ 0 ∷ [])
    ∷ named A "00 01 02 09" (11 ∷ 1 ∷ 0 ∷ 0 ∷ 0 ∷ [])
    ∷ named A "00 01 01 02 02 02 04" (16 ∷ 1 ∷ 0 ∷ 0 ∷ 0 ∷ [])
    ∷ named A "00 01 01 02" (17 ∷ 1 ∷ 0 ∷ 0 ∷ 0 ∷ [])
    ∷ named A "00 03 01 02 02 03 04 01 02" (0 ∷ 0 ∷ 3 ∷ 0 ∷ 0 ∷ [])
    -- a slot's test by itself
    ∷ tested_slot A (3 ∷ 200 ∷ []) (12 ∷ 7 ∷ 200 ∷ 0 ∷ [])
    ∷ tested_slot A (4 ∷ 3 ∷ []) (13 ∷ 7 ∷ 3 ∷ 0 ∷ [])
    ∷ tested_slot below-relays (2 ∷ []) (14 ∷ 7 ∷ 2 ∷ 0 ∷ [])
    ∷ tested_slot A (2 ∷ 3 ∷ []) (15 ∷ 7 ∷ 2 ∷ 3 ∷ [])
    ∷ tested_slot A (3 ∷ 4 ∷ []) (0 ∷ 0 ∷ 0 ∷ 0 ∷ [])
    -- 16: a byte behind the last slot, its place the slot count; before 17
    ∷ judged A "00 00 00" (16 ∷ 0 ∷ 0 ∷ [])
    ∷ judged A "00 03 01 02 02 03 04 01 02 00" (16 ∷ 3 ∷ 0 ∷ [])
    -- 17: a packet is left outside
    ∷ judged A "00 00" (17 ∷ 0 ∷ 0 ∷ [])
    ∷ judged A "00 02 01 02 02 03 04" (17 ∷ 2 ∷ 0 ∷ [])
    -- passed, also with slots that have no sender
    ∷ judged A "00 03 01 02 02 03 04 01 02" (0 ∷ 0 ∷ 3 ∷ [])
    ∷ judged A "00 04 00 01 02 02 03 04 01 02" (0 ∷ 0 ∷ 4 ∷ [])
    ∷ judged "00 00 00" "00 00" (0 ∷ 0 ∷ 0 ∷ [])
    -- packets move to the parent, and the gateway keeps what it got
    ∷ holding A "00 00" (0 ∷ 0 ∷ 1 ∷ 1 ∷ 1 ∷ [])
    ∷ holding A "00 02 01 02 02 03 04" (0 ∷ 2 ∷ 1 ∷ 0 ∷ 0 ∷ [])
    -- the chooser: the passed one with fewer slots, the first when equal, else the empty part
    ∷ chosen A "00 04 00 01 02 02 03 04 01 02" "00 03 01 02 02 03 04 01 02" "00 03 01 02 02 03 04 01 02"
    ∷ chosen A "00 03 01 02 02 03 04 01 02" "00 04 00 01 02 02 03 04 01 02" "00 03 01 02 02 03 04 01 02"
    ∷ chosen A "00 03 01 02 02 03 04 01 02" "00 03 02 03 04 01 02 01 02" "00 03 01 02 02 03 04 01 02"
    ∷ chosen A "00 03 01 02 02 03 04 01 02" "00 00" "00 03 01 02 02 03 04 01 02"
    ∷ chosen A "00 00" "00 03 01 02 02 03 04 01 02" "00 03 01 02 02 03 04 01 02"
    ∷ chosen A "00 01 02 02 04" "00" ""
    ∷ chosen ring "00 00" "00 00" ""
    -- a number, and each kind of line that the lister prints
    ∷ number_text 0 "0"
    ∷ number_text 9 "9"
    ∷ number_text 10 "10"
    ∷ number_text 99 "99"
    ∷ number_text 100 "100"
    ∷ number_text 30240 "30240"
    ∷ number_text 65535 "65535"
    ∷ refusal_text 8 2016 "refused 8 2016\n"
    ∷ numbers_text 63 30240 945 105 1875 "colours 63 slots 30240 packets 945 heaviest 105 least 1875\n"
    ∷ slot_text 120 (9 ∷ 10 ∷ 64 ∷ []) "120: 9 10 64\n"
    -- colours by probe: falling degree, ties by lower number, the smallest that is free
    ∷ colours_of_probes A (1 ∷ 2 ∷ 2 ∷ [])
    ∷ colours_of_probes A-with-a-pair (1 ∷ 2 ∷ 3 ∷ [])
    ∷ colours_of_probes chain (1 ∷ 2 ∷ 3 ∷ [])
    ∷ colours_of_probes five (3 ∷ 2 ∷ 1 ∷ 3 ∷ 2 ∷ [])
    ∷ colours_of_probes (star 4 "04 " "00 00") (1 ∷ 2 ∷ 3 ∷ 4 ∷ [])
    -- colours by level, likewise
    ∷ colours_of_levels A (1 ∷ 2 ∷ [])
    ∷ colours_of_levels five (3 ∷ 2 ∷ 1 ∷ 3 ∷ 2 ∷ [])
    ∷ colours_of_levels (star 4 "04 " "00 00") (1 ∷ [])
    -- no probes
    ∷ plan_by_probe "00 00 00" 2 (0 ∷ 0 ∷ 0 ∷ 0 ∷ 2 ∷ []) "00 00"
    ∷ plan_by_level "00 00 00" 2 (0 ∷ 0 ∷ 0 ∷ 0 ∷ 2 ∷ []) "00 00"
    ∷ plan_by_probe "00 00 00" 1 (9 ∷ 0 ∷ 0 ∷ 0 ∷ 0 ∷ []) "ee"
    ∷ plan_by_probe "01 01 00 00 00" 3 (0 ∷ 0 ∷ 1 ∷ 0 ∷ 2 ∷ []) "00 00 ee"
    ∷ plan_by_probe below-relays 10 (0 ∷ 0 ∷ 3 ∷ 4 ∷ 10 ∷ []) "00 04 01 05 01 04 01 03 01 02"
    ∷ plan_by_level "02 01 00 01 04 00 00" 10 (0 ∷ 0 ∷ 1 ∷ 4 ∷ 10 ∷ []) "00 04 01 03 01 03 01 03 01 03"
    ∷ plan_by_probe "02 01 00 01 04 00 00" 10 (0 ∷ 0 ∷ 2 ∷ 4 ∷ 10 ∷ []) "00 04 01 03 01 03 01 03 01 03"
    ∷ plan_by_probe "04 01 00 01 01 02 01 03 01 00 00" 12 (0 ∷ 0 ∷ 2 ∷ 4 ∷ 11 ∷ []) "00 04 02 04 05 01 03 01 02 01 03 ee"
    ∷ plan_by_level "00 00 00" 1 (9 ∷ 0 ∷ 0 ∷ 0 ∷ 0 ∷ []) "ee"
    -- the telephone: at most is the smaller of colours × slowest branch and hops: in the arms 6 and not 9, in the star of 1, 1 and 15 packets 17 and not 45
    ∷ asked_for ring (6 ∷ 2 ∷ 0 ∷ 0 ∷ 0 ∷ 0 ∷ [])
    ∷ asked_for "00 00 00" (0 ∷ 0 ∷ 0 ∷ 0 ∷ 0 ∷ 0 ∷ [])
    ∷ asked_for A (0 ∷ 0 ∷ 3 ∷ 3 ∷ 4 ∷ 1 ∷ [])
    ∷ asked_for chain (0 ∷ 0 ∷ 5 ∷ 6 ∷ 6 ∷ 2 ∷ [])
    ∷ asked_for (arms "00 00") (0 ∷ 0 ∷ 6 ∷ 6 ∷ 6 ∷ 1 ∷ [])
    ∷ asked_for "03 01 01 01 01 01 0f 00 00" (0 ∷ 0 ∷ 17 ∷ 17 ∷ 17 ∷ 1 ∷ [])
    -- the packets of the heaviest branch, packets and levels below of the longest, packets and lag of the slowest
    ∷ branches "00 00 00" (0 ∷ 0 ∷ 0 ∷ [])
    ∷ branches A (2 ∷ 3 ∷ 2 ∷ [])
    ∷ branches below-relays (1 ∷ 4 ∷ 4 ∷ [])
    ∷ branches "03 01 01 02 00 03 02 00 00" (3 ∷ 5 ∷ 4 ∷ [])
    -- how many times, rounded up; the colours where they are fewer: a packet below six relays has three, 7 slots, and at least 2; nothing sent is 0 times
    ∷ how_often 3 7 2 3
    ∷ how_often 5 7 2 4
    ∷ how_often 5 8 2 4
    ∷ how_often 5 2 2 1
    ∷ how_often 1 0 0 0
    -- the fewest slots of any plan: all packets where no branch wants more, or what the busiest probe hears and sends: in the chain 5 and not 3; a lone branch
    -- whose packets are its top's own; two branches, of which the heavier wants 8 and all packets are 9; a relay hears and sends
    ∷ fewest "00 00 00" 0
    ∷ fewest A 3
    ∷ fewest chain 5
    ∷ fewest "01 01 0f 00 00" 15
    ∷ fewest "04 01 02 02 02 02 01 01 04 00 00" 9
    ∷ fewest "02 01 00 02 03 00 00" 6
    ∷ fewest "03 01 01 02 00 03 02 00 00" 5
    ∷ fewest mixed 20
    -- the largest degree; with no probes it is 0, and of a lone probe too
    ∷ most_conflicts "00 00 00" 0
    ∷ most_conflicts "01 01 0f 00 00" 0
    ∷ most_conflicts A 2
    ∷ most_conflicts five 4
    -- relays: none that never receives sends; a lone packet below three of them, above colours × packets; two with two packets below, where the lag is 1
    ∷ asked_for "01 01 00 00 00" (0 ∷ 0 ∷ 0 ∷ 0 ∷ 0 ∷ 0 ∷ [])
    ∷ asked_for below-relays (0 ∷ 0 ∷ 2 ∷ 4 ∷ 4 ∷ 2 ∷ [])
    ∷ asked_for "04 01 00 02 02 01 00 04 02 00 00" (0 ∷ 0 ∷ 4 ∷ 5 ∷ 6 ∷ 2 ∷ [])
    ∷ asked_for "04 01 00 01 01 02 01 03 01 00 00" (0 ∷ 0 ∷ 3 ∷ 4 ∷ 4 ∷ 2 ∷ [])
    ∷ asked_for "06 01 00 02 02 03 00 04 00 05 03 06 01 00 00" (0 ∷ 0 ∷ 12 ∷ 18 ∷ 24 ∷ 2 ∷ [])
    -- A, by probe and by level; 9 is one byte less than its room
    ∷ plan_by_probe A 10 (0 ∷ 0 ∷ 2 ∷ 3 ∷ 9 ∷ []) "00 03 01 02 02 03 04 01 02 ee"
    ∷ plan_by_probe A 9 (9 ∷ 0 ∷ 0 ∷ 0 ∷ 0 ∷ []) "ee ee ee ee ee ee ee ee ee"
    ∷ plan_by_level A 10 (0 ∷ 0 ∷ 2 ∷ 3 ∷ 9 ∷ []) "00 03 01 02 02 03 04 01 02 ee"
    ∷ plan_by_level A 9 (9 ∷ 0 ∷ 0 ∷ 0 ∷ 0 ∷ []) "ee ee ee ee ee ee ee ee ee"
    -- A with pair 2, 4; the chain; fifteen packets
    ∷ plan_by_probe A-with-a-pair 10 (0 ∷ 0 ∷ 3 ∷ 4 ∷ 10 ∷ []) "00 04 01 02 01 03 01 04 01 02"
    ∷ plan_by_probe chain 14 (0 ∷ 0 ∷ 3 ∷ 6 ∷ 14 ∷ []) "00 06 01 02 01 03 01 04 01 02 01 03 01 02"
    ∷ plan_by_probe "01 01 0f 00 00" 33 (0 ∷ 0 ∷ 1 ∷ 15 ∷ 32 ∷ [])
    "00 0f 01 02 01 02 01 02 01 02 01 02 01 02 01 02 01 02 01 02 01 02 01 02 01 02 01 02 01 02 01 02 ee"
    -- the sheet comes before the room
    ∷ plan_by_probe ring 4 (6 ∷ 2 ∷ 0 ∷ 0 ∷ 0 ∷ []) "ee ee ee ee"
    ∷ plan_by_level ring 4 (6 ∷ 2 ∷ 0 ∷ 0 ∷ 0 ∷ []) "ee ee ee ee"
    ∷ plan_by_probe "02 01 01 01 01 00 02 01 02 01 02" 2 (8 ∷ 2 ∷ 0 ∷ 0 ∷ 0 ∷ []) "ee ee"
    -- several rounds; joiners conflict with earlier joiners; a probe emptied as a joiner does not send again unless refilled
    ∷ plan_by_probe "05 01 01 02 01 03 01 04 01 04 01 00 00" 30 (0 ∷ 0 ∷ 4 ∷ 12 ∷ 28 ∷ [])
    "00 0c 01 03 01 04 02 02 05 02 02 06 01 03 01 04 01 02 01 03 01 04 01 02 01 03 01 02 ee ee"
    -- by level, several rounds; probes of one level may conflict
    ∷ plan_by_level mixed 53 (0 ∷ 0 ∷ 3 ∷ 20 ∷ 47 ∷ [])
    "00 14 02 02 07 02 03 05 02 04 06 01 02 02 03 05 02 04 06 01 02 01 03 01 02 01 03 01 02 01 03 01 02 01 04 01 02 01 04 01 02 01 02 01 02 01 02 ee ee ee ee ee ee"
    ∷ plan_by_level "04 01 02 01 01 01 01 02 03 00 00" 22 (0 ∷ 0 ∷ 2 ∷ 8 ∷ 20 ∷ [])
    "00 08 01 02 02 03 05 01 02 02 04 05 01 02 01 05 01 02 01 02 ee ee"
    ∷ plan_by_level five 32 (0 ∷ 0 ∷ 3 ∷ 12 ∷ 29 ∷ []) "00 0c 01 04 02 03 06 02 02 05 01 04 01 03 02 02 05 01 04 01 03 01 02 01 03 01 02 01 02 ee ee ee"
    ∷ plan_by_level "04 01 01 01 01 01 01 02 01 00 00" 12 (0 ∷ 0 ∷ 2 ∷ 4 ∷ 11 ∷ []) "00 04 01 02 02 03 05 01 02 01 04 ee"
    -- the lister, whole
    ∷ listed A "colours 2 slots 3 packets 3 heaviest 2 least 3\n1: 2\n2: 3 4\n3: 2\n"
    ∷ listed "00 00 00" "colours 0 slots 0 packets 0 heaviest 0 least 0\n"
    ∷ listed ring "refused 6 2\n"
    ∷ listed mixed
    "colours 3 slots 20 packets 13 heaviest 11 least 20\n1: 2 7\n2: 3 5\n3: 4 6\n4: 2\n5: 3 5\n6: 4 6\n7: 2\n8: 3\n9: 4\n10: 2\n11: 3\n12: 4\n13: 2\n14: 3\n15: 2\n16: 2\n17: 2\n18: 2\n19: 2\n20: 2\n"
    ∷ listed (star 12 "0c " "00 01 00 01") "refused 7 1\n"
    ∷ []

-- the one claim: every row is true
pub proved-yards : T (all_true yards)
unfolding digit pairs hex many planner verdict names told same alike up says true-row all_true A A-with-a-pair chain turned ring below-relays five arms four-arms mixed star yards
    for_each some least sum most tab probes_that reaches climb climbed lag_on parent_of packets_of level_of hops all_packets heaviest longest slowest least_slots interfere slot_bytes slots_from
    disturb conflict conflict_table smallest_free next_of coloured_by probe_colours levels_conflict levels depth level_colours
    joined owners_by_probe owners_by_level slot_of turn_of moved held_after recorded round rounds by_probe by_level slots_in
    ◌then◌ in_order probe_test walk_test pair_test counts_test sheet_test plan_test_in plan_made_in
    slot_test two_names slot_names slot_tested slot_judged slots_judged plan_judged_by plan_judged judge_in plan_names_by plan_names judgement_in choice
    text decimal numbers_line senders_text slot_line slot_lines list asked
proved-yards = tt
