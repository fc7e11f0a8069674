-- RULES, "The wake book": the books that are proved, as rows of one table under one claim, computed from the definitions as those of `Yards` are.
use mathlib.Core.Bool.{Bool, true, ◌&&◌}
use mathlib.Core.List.{List, [], ◌∷◌, ◌++◌}
use Prim.Native.Nat.{ℕ}
use Prim.Native.String.{String}
use lib.Dec.{T}
use lib.ListN.{length, replicate}
use Rattle.meaning.specs.Returned.{Booked}
use Rattle.meaning.specs.Words.{for_each, some, least, sum, most, tab, in_turn}
use Rattle.meaning.specs.Yard.{reaches, climb, climbed}
use Rattle.meaning.specs.Sheet.{parent_of, packets_of, level_of, interfere}
use Rattle.meaning.specs.Plan.{slots_from, front}
use Rattle.meaning.specs.Conflict.{disturb, conflict, conflict_table}
use Rattle.meaning.specs.Rounds.{moved}
use Rattle.meaning.specs.Answer.{◌then◌, in_order, probe_test, walk_test, pair_test, counts_test, sheet_test}
use Rattle.meaning.specs.Judge.{slot_test, two_names, slot_names, slot_judged, slots_judged, plan_judged_by, plan_judged, judge_in, plan_names_by, plan_names, judgement_in}
use Rattle.meaning.specs.Lister.{text, decimal, senders_text}
use Rattle.meaning.specs.Book.{slots_where, two_each, wake_book, book_made, list_at, behind_list, entry_at, wake_line}
use Rattle.meaning.proofs.RowBytes.{digit, pairs, hex, many, same}

-- A row of a book gives a sheet, a plan and the length of the buffer lent, whose bytes are all `ee`; then number, place, both names and bytes written; then the whole buffer
-- afterwards. A book that is read gives its bytes and k, and then where the entry of probe k + 2 begins, and its two lists, each behind its count. An entry's line stands by itself
pub data Row : Type 0 where
  booked : String → String → ℕ → List ℕ → String → Row
  entry_read : String → ℕ → List ℕ → Row
  line : ℕ → List ℕ → List ℕ → String → Row

made : List ℕ → List ℕ → ℕ → List ℕ
made s plan lent = let book = book_made s plan lent in numbers book.answer ++ front (replicate lent 0xee) book.written
  where
    numbers : Booked → List ℕ
    numbers r = r.outcome.number ∷ r.outcome.place ∷ r.names.first ∷ r.names.second ∷ r.bytes ∷ []

pub true-row : Row → Bool
true-row (booked sheet plan lent numbers after) = same (made (hex sheet) (hex plan) lent) (numbers ++ hex after)
true-row (entry_read book k numbers) = same (at ∷ read at ++ read (behind_list bytes at)) numbers
  where
    bytes : List ℕ
    bytes = hex book

    at : ℕ
    at = entry_at bytes k

    read : ℕ → List ℕ
    read from = length (list_at bytes from) ∷ list_at bytes from
true-row (line v sends hears printed) = same (wake_line v sends hears) (text printed)

pub all_true : List Row → Bool
all_true [] = true
all_true (row ∷ rows) = true-row row && all_true rows

A : String
A = "03 01 01 02 01 01 01 00 00"

A-plan : String
A-plan = "00 03 01 02 02 03 04 01 02"

A-book : String
A-book = "00 02 00 01 00 03 00 01 00 02 00 01 00 02 00 00 00 01 00 02 00 00"

pub books : List Row
books =
    line 7 (3 ∷ 9 ∷ 12 ∷ []) (1 ∷ 8 ∷ []) "probe 7 sends in 3 9 12, listens in 1 8\n"
    ∷ line 64 [] (65535 ∷ []) "probe 64 sends in no slot, listens in 65535\n"
    ∷ line 3 (2 ∷ []) [] "probe 3 sends in 2, listens in no slot\n"
    -- no probes: the empty book; a relay that nothing passes
    ∷ booked "00 00 00" "00 00" 1 (0 ∷ 0 ∷ 0 ∷ 0 ∷ 0 ∷ []) "ee"
    ∷ booked "01 01 00 00 00" "00 00" 5 (0 ∷ 0 ∷ 0 ∷ 0 ∷ 4 ∷ []) "00 00 00 00 ee"
    -- the sheet first, then the plan, then 22; a refusal writes nothing
    ∷ booked "02 03 01 02 01 00 00" "" 2 (6 ∷ 2 ∷ 0 ∷ 0 ∷ 0 ∷ []) "ee ee"
    ∷ booked A "00" 2 (11 ∷ 0 ∷ 0 ∷ 0 ∷ 0 ∷ []) "ee ee"
    ∷ booked A "00 01 02 02 04" 2 (15 ∷ 1 ∷ 2 ∷ 4 ∷ 0 ∷ []) "ee ee"
    ∷ booked A "00 02 01 02 02 03 04" 2 (17 ∷ 2 ∷ 0 ∷ 0 ∷ 0 ∷ []) "ee ee"
    -- A: the buffer one byte short, exact and longer
    ∷ booked A A-plan 21 (22 ∷ 0 ∷ 0 ∷ 0 ∷ 0 ∷ []) "ee ee ee ee ee ee ee ee ee ee ee ee ee ee ee ee ee ee ee ee ee"
    ∷ booked A A-plan 22 (0 ∷ 0 ∷ 0 ∷ 0 ∷ 22 ∷ []) A-book
    ∷ booked A A-plan 24 (0 ∷ 0 ∷ 0 ∷ 0 ∷ 22 ∷ []) "00 02 00 01 00 03 00 01 00 02 00 01 00 02 00 00 00 01 00 02 00 00 ee ee"
    -- the first slot without a sender is counted, and so are 255 of them
    ∷ booked A "00 04 00 01 02 02 03 04 01 02" 22 (0 ∷ 0 ∷ 0 ∷ 0 ∷ 22 ∷ []) "00 02 00 02 00 04 00 01 00 03 00 01 00 03 00 00 00 01 00 03 00 00"
    ∷ booked "01 01 01 00 00" (many 1 "01 00 " (many 255 "00 " "01 02")) 6 (0 ∷ 0 ∷ 0 ∷ 0 ∷ 6 ∷ []) "00 01 01 00 00 00"
    -- a relay passes on what it hears; a chain
    ∷ booked "02 01 00 02 01 00 00" "00 02 01 03 01 02" 14 (0 ∷ 0 ∷ 0 ∷ 0 ∷ 14 ∷ []) "00 01 00 02 00 01 00 01 00 01 00 01 00 00"
    ∷ booked "03 01 01 02 01 03 01 00 00" "00 06 01 02 01 03 01 04 01 02 01 03 01 02" 30 (0 ∷ 0 ∷ 0 ∷ 0 ∷ 30 ∷ [])
    "00 03 00 01 00 04 00 06 00 02 00 02 00 05 00 02 00 02 00 05 00 01 00 03 00 01 00 03 00 00"
    -- each probe finds its entry
    ∷ entry_read A-book 0 (0 ∷ 2 ∷ 1 ∷ 3 ∷ 1 ∷ 2 ∷ [])
    ∷ entry_read A-book 1 (10 ∷ 1 ∷ 2 ∷ 0 ∷ [])
    ∷ entry_read A-book 2 (16 ∷ 1 ∷ 2 ∷ 0 ∷ [])
    ∷ []

-- the one claim: every row is true
pub proved-books : T (all_true books)
unfolding digit pairs hex many same made true-row all_true A A-plan A-book books
    for_each some least sum most tab in_turn reaches climb climbed parent_of packets_of level_of interfere slots_from disturb conflict conflict_table moved
    ◌then◌ in_order probe_test walk_test pair_test counts_test sheet_test
    slot_test two_names slot_names slot_judged slots_judged plan_judged_by plan_judged judge_in plan_names_by plan_names judgement_in
    text decimal senders_text slots_where two_each wake_book book_made entry_at wake_line
proved-books = tt
