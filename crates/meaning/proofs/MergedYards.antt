-- RULES, "Merged readings": the yards that are proved in this mode, as rows of one table under one claim, computed from the definitions as those of `Yards` are.
use mathlib.Core.Bool.{Bool, true, ◌&&◌}
use mathlib.Core.List.{List, [], ◌∷◌, ◌++◌}
use Prim.Native.Nat.{ℕ}
use Prim.Native.String.{String}
use lib.Dec.{T}
use lib.ListN.{replicate}
use Rattle.meaning.specs.declared.Mode.TheVariants.{Merged}
use Rattle.meaning.specs.declared.Planned.{Planned}
use Rattle.meaning.specs.declared.Judgement.{Judgement}
use Rattle.meaning.specs.declared.MergedTold.{MergedTold}
use Rattle.meaning.specs.Words.{for_each, some, least, sum, most, tab, probes_that}
use Rattle.meaning.specs.Yard.{reaches, climb, climbed}
use Rattle.meaning.specs.Sheet.{parent_of, packets_of, level_of, hops, interfere}
use Rattle.meaning.specs.Plan.{slot_bytes, front}
use Rattle.meaning.specs.Conflict.{disturb, conflict, conflict_table}
use Rattle.meaning.specs.Colour.{smallest_free, next_of, coloured_by, probe_colours, depth}
use Rattle.meaning.specs.Rounds.{ready, joined, owners_by_probe, slot_of, turn_of, moved, held_after, recorded, round, rounds, merged, slots_in}
use Rattle.meaning.specs.Answer.{◌then◌, in_order, probe_test, walk_test, pair_test, counts_test, sheet_test, plan_test_in, plan_made_in, merged_made}
use Rattle.meaning.specs.Judge.{slot_test, two_names, slot_names, slot_judged, slots_judged, plan_judged_by, plan_judged, judge_in, plan_names_by, plan_names, judgement_in}
use Rattle.meaning.specs.Lister.{text}
use Rattle.meaning.specs.Merged.{merged_asked}
use Rattle.meaning.proofs.RowBytes.{digit, pairs, hex, many, same}

-- A planner's row gives a sheet and the length of the buffer lent, whose bytes are all `ee`; then number, place, colours, slots and bytes written; then the whole buffer
-- afterwards. A judge's row gives a sheet and a plan; then number, place, slots and both names. A telephone's gives a sheet; then number and place, and the slots at least, in
-- our plan and at most
pub data Row : Type 0 where
  planned : String → ℕ → List ℕ → String → Row
  judged : String → String → List ℕ → Row
  asked_for : String → List ℕ → Row

plan-made : List ℕ → ℕ → List ℕ
plan-made s lent = let made = merged_made s lent in numbers made.answer ++ front (replicate lent 0xee) made.written
  where
    numbers : Planned → List ℕ
    numbers r = r.outcome.number ∷ r.outcome.place ∷ r.colours ∷ r.slots ∷ r.bytes ∷ []

verdict : Judgement → List ℕ
verdict r = r.verdict.outcome.number ∷ r.verdict.outcome.place ∷ r.verdict.slots ∷ r.names.first ∷ r.names.second ∷ []

told : MergedTold → List ℕ
told r = r.outcome.number ∷ r.outcome.place ∷ r.least ∷ r.ours ∷ r.most ∷ []

pub true-row : Row → Bool
true-row (planned sheet lent numbers after) = same (plan-made (hex sheet) lent) (numbers ++ hex after)
true-row (judged sheet plan numbers) = same (verdict (judgement_in Merged (hex sheet) (hex plan))) numbers
true-row (asked_for sheet numbers) = same (told (merged_asked (hex sheet))) numbers

pub all_true : List Row → Bool
all_true [] = true
all_true (row ∷ rows) = true-row row && all_true rows

A : String
A = "03 01 01 02 01 01 01 00 00"

-- three probes next to the gateway, with two relays below each
arms : String
arms = "09 01 00 01 00 01 00 02 00 02 00 03 00 03 00 04 00 04 00 00 00"

pub merged-yards : List Row
merged-yards =
    -- no probes; a relay sends, though it has no hops; 9 exactly below 2 + 2 p
    planned "00 00 00" 2 (0 ∷ 0 ∷ 0 ∷ 0 ∷ 2 ∷ []) "00 00"
    ∷ planned "00 00 00" 1 (9 ∷ 0 ∷ 0 ∷ 0 ∷ 0 ∷ []) "ee"
    ∷ planned "01 01 00 00 00" 4 (0 ∷ 0 ∷ 1 ∷ 1 ∷ 4 ∷ []) "00 01 01 02"
    ∷ planned "01 01 00 00 00" 3 (9 ∷ 0 ∷ 0 ∷ 0 ∷ 0 ∷ []) "ee ee ee"
    -- the sheet first; then the room
    ∷ planned "02 03 01 02 01 00 00" 0 (6 ∷ 2 ∷ 0 ∷ 0 ∷ 0 ∷ []) ""
    -- A: children first; whatever the packets are; the bytes behind stay
    ∷ planned A 7 (9 ∷ 0 ∷ 0 ∷ 0 ∷ 0 ∷ []) "ee ee ee ee ee ee ee"
    ∷ planned A 8 (0 ∷ 0 ∷ 2 ∷ 2 ∷ 7 ∷ []) "00 02 02 03 04 01 02 ee"
    ∷ planned "03 01 0f 02 00 01 01 00 00" 8 (0 ∷ 0 ∷ 2 ∷ 2 ∷ 7 ∷ []) "00 02 02 03 04 01 02 ee"
    -- with a pair; a chain, and one whose numbers do not rise
    ∷ planned "03 01 01 02 01 01 01 00 01 02 04" 8 (0 ∷ 0 ∷ 3 ∷ 3 ∷ 8 ∷ []) "00 03 01 03 01 04 01 02"
    ∷ planned "03 01 01 02 01 03 01 00 00" 8 (0 ∷ 0 ∷ 3 ∷ 3 ∷ 8 ∷ []) "00 03 01 04 01 03 01 02"
    ∷ planned "03 04 00 02 00 01 00 00 00" 8 (0 ∷ 0 ∷ 3 ∷ 3 ∷ 8 ∷ []) "00 03 01 03 01 02 01 04"
    -- a joiner; and arms that send side by side
    ∷ planned "05 01 01 02 01 02 01 01 01 05 00 00 00" 12 (0 ∷ 0 ∷ 3 ∷ 3 ∷ 10 ∷ []) "00 03 02 03 06 02 04 05 01 02 ee ee"
    ∷ planned arms 20 (0 ∷ 0 ∷ 3 ∷ 5 ∷ 16 ∷ []) "00 05 03 05 07 09 03 06 08 0a 01 04 01 02 01 03 ee ee ee ee"
    -- the judge: the sheet first, then 11 in the count and in a slot, 12, 13
    ∷ judged "02 03 01 02 01 00 00" "00" (6 ∷ 2 ∷ 0 ∷ 0 ∷ 0 ∷ [])
    ∷ judged A "00" (11 ∷ 0 ∷ 0 ∷ 0 ∷ 0 ∷ [])
    ∷ judged A "00 02 02 03 04" (11 ∷ 2 ∷ 0 ∷ 0 ∷ 0 ∷ [])
    ∷ judged A "00 01 01 05" (12 ∷ 1 ∷ 0 ∷ 5 ∷ 0 ∷ [])
    ∷ judged A "00 01 02 04 03" (13 ∷ 1 ∷ 0 ∷ 3 ∷ 0 ∷ [])
    -- 14: before its child, which the plan by probe has; in the very slot in which the child sends; a second time
    ∷ judged A "00 03 01 02 02 03 04 01 02" (14 ∷ 1 ∷ 0 ∷ 2 ∷ 0 ∷ [])
    ∷ judged A "00 01 02 02 03" (14 ∷ 1 ∷ 0 ∷ 2 ∷ 0 ∷ [])
    ∷ judged A "00 03 02 03 04 01 02 01 03" (14 ∷ 3 ∷ 0 ∷ 3 ∷ 0 ∷ [])
    -- 15, 16, 17; a relay that never sent
    ∷ judged "02 01 01 01 01 00 00" "00 01 02 02 03" (15 ∷ 1 ∷ 0 ∷ 2 ∷ 3 ∷ [])
    ∷ judged A "00 02 02 03 04 01 02 00" (16 ∷ 2 ∷ 0 ∷ 0 ∷ 0 ∷ [])
    ∷ judged A "00 01 02 03 04" (17 ∷ 1 ∷ 0 ∷ 0 ∷ 0 ∷ [])
    ∷ judged "01 01 00 00 00" "00 00" (17 ∷ 0 ∷ 0 ∷ 0 ∷ 0 ∷ [])
    -- passed: ours, one with a slot without a sender, one in another order, a relay's, and with no probes
    ∷ judged A "00 02 02 03 04 01 02" (0 ∷ 0 ∷ 2 ∷ 0 ∷ 0 ∷ [])
    ∷ judged A "00 03 02 03 04 00 01 02" (0 ∷ 0 ∷ 3 ∷ 0 ∷ 0 ∷ [])
    ∷ judged A "00 03 01 03 01 02 01 04" (0 ∷ 0 ∷ 3 ∷ 0 ∷ 0 ∷ [])
    ∷ judged "01 01 00 00 00" "00 01 01 02" (0 ∷ 0 ∷ 1 ∷ 0 ∷ 0 ∷ [])
    ∷ judged "00 00 00" "00 00" (0 ∷ 0 ∷ 0 ∷ 0 ∷ 0 ∷ [])
    -- the telephone: at most a slot a probe, or, of the arms, colours times depth; ours comes down to at least, and in a star up to at most
    ∷ asked_for "00 00 00" (0 ∷ 0 ∷ 0 ∷ 0 ∷ 0 ∷ [])
    ∷ asked_for "01 01 00 00 00" (0 ∷ 0 ∷ 1 ∷ 1 ∷ 1 ∷ [])
    ∷ asked_for A (0 ∷ 0 ∷ 2 ∷ 2 ∷ 3 ∷ [])
    ∷ asked_for arms (0 ∷ 0 ∷ 2 ∷ 5 ∷ 6 ∷ [])
    ∷ asked_for "04 01 00 01 01 01 00 01 0f 00 00" (0 ∷ 0 ∷ 1 ∷ 4 ∷ 4 ∷ [])
    ∷ asked_for "02 03 01 02 01 00 00" (6 ∷ 2 ∷ 0 ∷ 0 ∷ 0 ∷ [])
    ∷ []

-- the one claim: every row is true
pub proved-merged-yards : T (all_true merged-yards)
unfolding digit pairs hex many same plan-made verdict told true-row all_true A arms merged-yards
    for_each some least sum most tab probes_that reaches climb climbed parent_of packets_of level_of hops interfere slot_bytes
    disturb conflict conflict_table smallest_free next_of coloured_by probe_colours depth
    ready joined owners_by_probe slot_of turn_of moved held_after recorded round rounds merged slots_in
    ◌then◌ in_order probe_test walk_test pair_test counts_test sheet_test plan_test_in plan_made_in
    slot_test two_names slot_names slot_judged slots_judged plan_judged_by plan_judged judge_in plan_names_by plan_names judgement_in text merged_asked
proved-merged-yards = tt
