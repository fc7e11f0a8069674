-- RULES, "Numbers returned" and "Whom a refusal names": the judge and the chooser.
use Rattle.std.specs.Prelude.{Bool, cond, not, ◌&&◌, ◌||◌, List, ℕ, ◌+◌, ◌-◌, eqb, ltb, leb, length, get_or, take}
use Rattle.meaning.specs.declared.Mode.{Mode}
use Rattle.meaning.specs.declared.Mode.TheVariants.{Packets}
use Rattle.meaning.specs.declared.Outcome.{Outcome}
use Rattle.meaning.specs.declared.Verdict.{Verdict}
use Rattle.meaning.specs.declared.Names.{Names}
use Rattle.meaning.specs.Returned.{Tested}
use Rattle.meaning.specs.declared.Judgement.{Judgement}
use Rattle.meaning.specs.declared.Choice.{Choice}
use Rattle.meaning.specs.declared.Choice.TheVariants.{Neither, First, Second}
use Rattle.meaning.specs.Words.{Bytes, Node, Relation, for_each, some, least, tab, places}
use Rattle.meaning.specs.Yard.{is_probe}
use Rattle.meaning.specs.Sheet.{two_at, probe_count, parent_of}
use Rattle.meaning.specs.Conflict.{entry, conflict_table}
use Rattle.meaning.specs.Plan.{next_at, senders_at}
use Rattle.meaning.specs.Rounds.{holds, outside, moved, may_in, goes_in, first_in}
use Rattle.meaning.specs.Answer.{accepted, is_accepted, given, ◌then◌, sheet_test}

-- "Numbers returned": 12, sender i of a slot is no probe
abbrev pub no_probe : (p : ℕ) → (slot : List Node) → (i : ℕ) → Bool
no_probe p slot i = not (is_probe p (get_or slot i 0))

-- "Numbers returned": 13, the sender behind sender i is not above it
abbrev pub not_rising : (slot : List Node) → (i : ℕ) → Bool
not_rising slot i = leb (get_or slot (i + 1) 0) (get_or slot i 0)

-- "Numbers returned": 14, sender i holds no packet before the slot
abbrev pub no_packet : (held : List ℕ) → (slot : List Node) → (i : ℕ) → Bool
no_packet held slot i = not (holds held (get_or slot i 0))

-- "Numbers returned": 15, sender j stands behind sender i, and the two conflict
abbrev pub conflict_behind : Relation → (slot : List Node) → (i j : ℕ) → Bool
conflict_behind relation slot i j = ltb i j && relation (get_or slot i 0) (get_or slot j 0)

-- "Numbers returned": the four tests, each over the whole slot
abbrev pub some_no_probe : (p : ℕ) → (slot : List Node) → Bool
some_no_probe p slot = some (length slot) (no_probe p slot)

abbrev pub some_not_rising : (slot : List Node) → Bool
some_not_rising slot = some (length slot - 1) (not_rising slot)

abbrev pub some_no_packet : (held : List ℕ) → (slot : List Node) → Bool
some_no_packet held slot = some (length slot) (no_packet held slot)

abbrev pub some_conflict : Relation → (slot : List Node) → Bool
some_conflict relation slot = some (length slot) (λ i. some (length slot) (conflict_behind relation slot i))

-- "Numbers returned": 12 to 15 of one slot, each tried over the whole slot before the next
unfoldable pub slot_test : (p : ℕ) → Relation → (held : List ℕ) → (place : ℕ) → (slot : List Node) → Outcome
slot_test p relation held place slot =
    given 12 place (some_no_probe p slot)
    then given 13 place (some_not_rising slot)
    then given 14 place (some_no_packet held slot)
    then given 15 place (some_conflict relation slot)

-- "Whom a refusal names": nobody
abbrev pub nobody : Names
nobody = record { first = 0; second = 0 }

-- "Whom a refusal names": one sender, by its byte
abbrev pub one_name : (slot : List Node) → (i : ℕ) → Names
one_name slot i = record { first = get_or slot i 0; second = 0 }

-- "Whom a refusal names": the first sender with which one behind it conflicts, and the first of those; senders rise by then, so that these two are the lowest
abbrev pub lower_at : Relation → (slot : List Node) → ℕ
lower_at relation slot = least (length slot) (λ i. some (length slot) (conflict_behind relation slot i))

abbrev pub higher_at : Relation → (slot : List Node) → ℕ
higher_at relation slot = let i = lower_at relation slot in least (length slot) (conflict_behind relation slot i)

-- "Whom a refusal names": the lowest two that conflict, the smaller first
unfoldable pub two_names : Relation → (slot : List Node) → Names
two_names relation slot = record { first = get_or slot (lower_at relation slot) 0; second = get_or slot (higher_at relation slot) 0 }

-- "Whom a refusal names": for 12 to 14 the first offender in slot order, for 13 the later of two; for 15 the lowest two; elsewhere nobody
unfoldable pub slot_names : (p : ℕ) → Relation → (held : List ℕ) → (slot : List Node) → (number : ℕ) → Names
slot_names p relation held slot number =
    cond (eqb number 12) (one_name slot (least (length slot) (no_probe p slot)))
    (cond (eqb number 13) (one_name slot (least (length slot - 1) (not_rising slot) + 1))
    (cond (eqb number 14) (one_name slot (least (length slot) (no_packet held slot)))
    (cond (eqb number 15) (two_names relation slot) nobody)))

-- "Numbers returned", "Whom a refusal names": the whole answer of a slot's test
unfoldable pub slot_tested : (p : ℕ) → Relation → (held : List ℕ) → (place : ℕ) → (slot : List Node) → Tested
slot_tested p relation held place slot =
    let outcome = slot_test p relation held place slot in
    record { outcome = outcome; names = slot_names p relation held slot outcome.number }

-- how far the judge has come: what is wrong so far, where the next slot begins, and what each node holds
pub record Judging : Type 0 where
  pub outcome : Outcome
  pub at : ℕ
  pub held : List ℕ

-- "Numbers returned": one slot, 11 first; a passed slot moves its packets. "Merged readings": 14 is given where a sender is not ready
unfoldable pub slot_judged : Mode → (p : ℕ) → (parent : Node → Node) → Relation → (plan : Bytes) → (place : ℕ) → Judging → Judging
slot_judged mode p parent relation plan place now =
    let slot = senders_at plan now.at in
    let test = slot_test p relation (may_in mode p parent now.held) place slot in
    let outcome = given 11 place (ltb (length plan) (next_at plan now.at)) then test in
    cond (is_accepted outcome)
    (record { outcome = outcome; at = next_at plan now.at; held = moved (goes_in mode parent) slot now.held })
    (record { outcome = outcome; at = now.at; held = now.held })

-- "Numbers returned": slots in order, up to the first that is refused
unfoldable pub slots_judged : Mode → (p : ℕ) → (parent : Node → Node) → Relation → (plan : Bytes) → (many : ℕ) → Judging → Judging
slots_judged mode p parent relation plan many start =
    for_each many (λ k now. cond (is_accepted now.outcome) (slot_judged mode p parent relation plan (k + 1) now) now) start

-- "Numbers returned": how far the judge comes in a plan's slots, the first of which begins behind their count
abbrev pub slots_done : Mode → (p : ℕ) → (parent : Node → Node) → Relation → (packets : List ℕ) → (plan : Bytes) → Judging
slots_done mode p parent relation packets plan =
    slots_judged mode p parent relation plan (two_at plan 0) (record { outcome = accepted; at = 2; held = packets })

-- "Numbers returned": the slots of a plan, then 16, then 17. "Merged readings": 17 is given where some probe never sent, so that it still holds its reading
unfoldable pub plan_judged_by : Mode → (p : ℕ) → (parent : Node → Node) → Relation → (packets : List ℕ) → (plan : Bytes) → Outcome
plan_judged_by mode p parent relation packets plan =
    let end = slots_done mode p parent relation packets plan in
    end.outcome
    then given 16 (two_at plan 0) (ltb end.at (length plan))
    then given 17 (two_at plan 0) (outside p end.held)

unfoldable pub plan_judged : Mode → (s plan : Bytes) → Outcome
plan_judged mode s plan =
    let table = conflict_table s in
    plan_judged_by mode (probe_count s) (parent_of s) (entry table) (tab places (first_in mode s)) plan

-- "Numbers returned": the judge tests the sheet first; it answers number, place and slots, the last being 0 unless passed
unfoldable pub judge_in : Mode → (s plan : Bytes) → Verdict
judge_in mode s plan =
    let outcome = sheet_test s then given 11 0 (ltb (length plan) 2) then plan_judged mode s plan in
    record { outcome = outcome; slots = cond (is_accepted outcome) (two_at plan 0) 0 }

abbrev pub judge : (s plan : Bytes) → Verdict
judge s plan = judge_in Packets s plan

-- "Whom a refusal names": whom the number given names in the slot that the judge has come to, which is the refused one
abbrev pub names_at : Mode → (p : ℕ) → (parent : Node → Node) → Relation → (plan : Bytes) → Judging → (number : ℕ) → Names
names_at mode p parent relation plan now number = slot_names p relation (may_in mode p parent now.held) (senders_at plan now.at) number

unfoldable pub plan_names_by : Mode → (p : ℕ) → (parent : Node → Node) → Relation → (packets : List ℕ) → (plan : Bytes) → (number : ℕ) → Names
plan_names_by mode p parent relation packets plan number = names_at mode p parent relation plan (slots_done mode p parent relation packets plan) number

unfoldable pub plan_names : Mode → (s plan : Bytes) → (number : ℕ) → Names
plan_names mode s plan number =
    let table = conflict_table s in
    plan_names_by mode (probe_count s) (parent_of s) (entry table) (tab places (first_in mode s)) plan number

-- "Numbers returned", "Whom a refusal names": the judge's whole answer; a refused sheet names nobody
unfoldable pub judgement_in : Mode → (s plan : Bytes) → Judgement
judgement_in mode s plan =
    let verdict = judge_in mode s plan in
    record { verdict = verdict; names = cond (is_accepted (sheet_test s)) (plan_names mode s plan verdict.outcome.number) nobody }

abbrev pub judgement : (s plan : Bytes) → Judgement
judgement s plan = judgement_in Packets s plan

-- "Numbers returned": the chooser takes the passed one with fewer slots, the first when equal
abbrev pub choose_by : Verdict → Verdict → Choice
choose_by a b =
    cond (is_accepted a.outcome && (not (is_accepted b.outcome) || leb a.slots b.slots)) First
    (cond (is_accepted b.outcome) Second Neither)

unfoldable pub choice : (s first second : Bytes) → Choice
choice s a b = choose_by (judge s a) (judge s b)

-- "Numbers returned": what each choice hands back; the empty part at the start of the first is the chooser's refusal
abbrev pub handed_back : Choice → (first second : Bytes) → Bytes
handed_back First a b = a
handed_back Second a b = b
handed_back Neither a b = take 0 a
