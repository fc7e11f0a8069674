-- The meaning of the judge's code in a yard as the code has it: its parents and its table are lent.
use Rattle.std.specs.Prelude.{List, ℕ, Result}
use Rattle.meaning.specs.declared.Blame.{Blame}
use Rattle.meaning.specs.declared.Names.{Names}
use Rattle.meaning.specs.declared.Outcome.{Outcome}
use Rattle.meaning.specs.Returned.{Tested}
use Rattle.meaning.specs.Words.{Bytes, by_node}
use Rattle.meaning.specs.Conflict.{entry}
use Rattle.meaning.specs.Rounds.{may_in}
use Rattle.meaning.specs.Judge.{Judging, slot_tested, slot_judged, slots_judged, plan_judged_by, plan_names_by}
use Rattle.laws.specs.Few.{at_most63}
use Rattle.judge.specs.declared.Yard.{Yard}
use Rattle.judge.specs.SlotTurn as turn

-- what a yard's slots count on
abbrev pub Ready : Yard → (held : List ℕ) → Type 0
Ready yard held = turn.Ready yard.mode yard.probes (by_node yard.parents.now) held

-- the test of a slot
abbrev pub tested_in : Yard → (held : List ℕ) → (place : ℕ) → (slot : Bytes) → Tested
tested_in yard held place slot =
    slot_tested (at_most63 yard.probes) (entry yard.table.now) (may_in yard.mode (at_most63 yard.probes) (by_node yard.parents.now) held) place slot

-- the turn of one slot, and of the first of a plan
abbrev pub slot_in : Yard → (plan : Bytes) → (place : ℕ) → Judging → Judging
slot_in yard plan place now = slot_judged yard.mode yard.probes (by_node yard.parents.now) (entry yard.table.now) plan place now

abbrev pub slots_in : Yard → (plan : Bytes) → (many : ℕ) → Judging → Judging
slots_in yard plan many now = slots_judged yard.mode yard.probes (by_node yard.parents.now) (entry yard.table.now) plan many now

-- whom a number names, and what all slots come to
abbrev pub Named : Yard → (plan : Bytes) → Judging → Names → Type 0
Named yard plan now names = turn.Named yard.mode yard.probes (by_node yard.parents.now) (entry yard.table.now) plan now names

abbrev pub Comes : Yard → (plan : Bytes) → (end : Judging) → List ℕ → Result ℕ Blame → Type 0
Comes yard plan end held result = turn.Comes yard.mode yard.probes (by_node yard.parents.now) (entry yard.table.now) plan end held result

-- the whole plan, and whom its number names
abbrev pub plan_in : Yard → (first : List ℕ) → (plan : Bytes) → Outcome
plan_in yard first plan = plan_judged_by yard.mode yard.probes (by_node yard.parents.now) (entry yard.table.now) first plan

abbrev pub names_of : Yard → (first : List ℕ) → (plan : Bytes) → (number : ℕ) → Names
names_of yard first plan number = plan_names_by yard.mode yard.probes (by_node yard.parents.now) (entry yard.table.now) first plan number
