-- RULES, "The two plans", after figures 3 and 5 of the paper; and "Merged readings", for which only who may send and where it goes are read otherwise.
use Rattle.std.specs.Prelude.{Bool, false, true, cond, not, ◌&&◌, List, [], ◌∷◌, ◌++◌, ℕ, ◌+◌, ◌-◌, eqb, ltb, get_or, set, replicate}
use Rattle.meaning.specs.declared.Mode.{Mode}
use Rattle.meaning.specs.declared.Mode.TheVariants.{Packets, Merged}
use Rattle.meaning.specs.Words.{Bytes, Node, Slots, Relation, for_each, while_busy, some, each_probe, some_probe, probes_that, tab, places, by_node}
use Rattle.meaning.specs.Yard.{is_probe}
use Rattle.meaning.specs.Sheet.{probe_count, parent_of, packets_of, level_of, hops}
use Rattle.meaning.specs.Conflict.{entry, conflict_table}
use Rattle.meaning.specs.Colour.{colours_used, probe_colours, level_colours}

-- "The two plans": v holds a packet
abbrev pub holds : (held : List ℕ) → Node → Bool
holds held v = ltb 0 (get_or held v 0)

-- "The two plans": some packet is outside the gateway
abbrev pub outside : (p : ℕ) → (held : List ℕ) → Bool
outside p held = some_probe p (holds held)

-- "Merged readings": a probe that has not sent yet holds one reading, its own
abbrev pub one_each : (p : ℕ) → Node → ℕ
one_each p v = cond (is_probe p v) 1 0

-- "Merged readings": some child of v has not sent yet
abbrev pub waits : (p : ℕ) → (parent : Node → Node) → (held : List ℕ) → Node → Bool
waits p parent held v = some_probe p (λ c. eqb (parent c) v && holds held c)

-- "Merged readings": v is ready, which is 1 here, when it has not sent and all its children have
unfoldable pub ready : (p : ℕ) → (parent : Node → Node) → (held : List ℕ) → List ℕ
ready p parent held = tab places (λ v. cond (holds held v && not (waits p parent held v)) 1 0)

-- "Merged readings": what each node may send of what it holds: every packet, or its reading where it is ready
abbrev pub may_in : Mode → (p : ℕ) → (parent : Node → Node) → (held : List ℕ) → List ℕ
may_in Packets p parent held = held
may_in Merged p parent held = ready p parent held

-- "Merged readings": where it goes: a packet to the sender's parent; a reading that is sent is merged into the parent's, and is counted at the gateway
abbrev pub goes_in : Mode → (parent : Node → Node) → Node → Node
goes_in Packets parent = parent
goes_in Merged parent = λ _. 1

-- "Merged readings": what each probe holds before the first slot: its packets, or one reading, whatever its packets are
abbrev pub first_in : Mode → Bytes → Node → ℕ
first_in Packets s = packets_of s
first_in Merged s = one_each (probe_count s)

-- "Merged readings": how many sendings bring everything in: the hops, or one a probe
abbrev pub sendings_in : Mode → Bytes → ℕ
sendings_in Packets s = hops s
sendings_in Merged s = probe_count s

-- "The two plans": one chosen so far conflicts with v; chosen has a flag for each node
abbrev pub clashes : Relation → (chosen : List Bool) → Node → Bool
clashes relation chosen v = some places (λ x. get_or chosen x false && relation x v)

-- "The two plans": v joins if it may and conflicts with none chosen so far (one that is chosen stays chosen)
abbrev pub joins : Relation → (may : Node → Bool) → Node → List Bool → List Bool
joins relation may v chosen = cond (may v && not (clashes relation chosen v)) (set chosen v true) chosen

-- "The two plans": every probe that may, in rising number
unfoldable pub joined : (p : ℕ) → Relation → (may : Node → Bool) → List Bool → List Bool
joined p relation may chosen = each_probe p (joins relation may) chosen

-- "The two plans", by probe: the probes of colour s that may send now
unfoldable pub owners_by_probe : (colour : Node → ℕ) → (s : ℕ) → (may : Node → Bool) → List Bool
owners_by_probe colour s may = tab places (λ v. eqb (colour v) s && may v)

-- "The two plans", by level: those of levels of colour s, taken in rising number, each only if it conflicts with none chosen so far
unfoldable pub owners_by_level : (p : ℕ) → Relation → (colour : Node → ℕ) → (s : ℕ) → (may : Node → Bool) → List Bool
owners_by_level p relation colour s may = joined p relation (λ v. eqb (colour v) s && may v) (replicate places false)

-- "The two plans": those chosen, in rising number
abbrev pub senders : (p : ℕ) → (chosen : List Bool) → List Node
senders p chosen = probes_that p (λ v. get_or chosen v false)

-- "The two plans": the slot of these owners: they and those that join them
unfoldable pub slot_of : (p : ℕ) → Relation → (may : Node → Bool) → (owners : List Bool) → List Node
slot_of p relation may owners = senders p (joined p relation may owners)

-- "The two plans": what the turn of these owners makes: their slot, or none where there is no owner
unfoldable pub turn_of : (p : ℕ) → Relation → (may : Node → Bool) → (owners : List Bool) → Slots
turn_of p relation may owners = cond (some_probe p (λ v. get_or owners v false)) (slot_of p relation may owners ∷ []) []

-- "The two plans": a sender's packet moves to its parent
abbrev pub hop : (parent : Node → Node) → Node → (held : List ℕ) → List ℕ
hop parent v held = let less = set held v (get_or held v 0 - 1) in set less (parent v) (get_or less (parent v) 0 + 1)

-- "The two plans": each sender's packet moves
unfoldable pub moved : (parent : Node → Node) → (slot : List Node) → (held : List ℕ) → List ℕ
moved parent [] held = held
moved parent (v ∷ slot) held = moved parent slot (hop parent v held)

-- "The two plans": what is held when these slots have been sent
unfoldable pub held_after : (parent : Node → Node) → (held : List ℕ) → Slots → List ℕ
held_after parent held [] = held
held_after parent held (slot ∷ slots) = held_after parent (moved parent slot held) slots

-- how far a plan has come: what each node holds now, and the slots made so far
pub record Progress : Type 0 where
  pub held : List ℕ
  pub slots : Slots

-- "The two plans": slots are recorded and what their senders send moves
unfoldable pub recorded : (parent : Node → Node) → Slots → Progress → Progress
recorded parent slots now = record { held = held_after parent now.held slots; slots = now.slots ++ slots }

-- what a planner goes by: the probes, where what they send goes, their conflicts, what each may send of what it holds, who of those that may owns the slot of a colour, the colours
pub record Way : Type 0 where
  pub probes : ℕ
  pub goes : Node → Node
  pub relation : Relation
  pub may : (held : List ℕ) → List ℕ
  pub owners : (s : ℕ) → (may : Node → Bool) → List Bool
  pub colours : ℕ

-- "The two plans": what the turn of colour s makes
abbrev pub turn : Way → (s : ℕ) → (held : List ℕ) → Slots
turn way s held = turn_of way.probes way.relation (holds (way.may held)) (way.owners s (holds (way.may held)))

-- "The two plans": a round, for each colour from 1 to M
unfoldable pub round : Way → Progress → Progress
round way start = for_each way.colours (λ s now. recorded way.goes (turn way (s + 1) now.held) now) start

-- "The two plans": while anything is outside the gateway, a round
unfoldable pub rounds : Way → ℕ → Progress → Progress
rounds way many start = while_busy (λ now. outside way.probes now.held) (round way) many start

-- before the first round each probe holds what it has at first
abbrev pub before : (packets : Node → ℕ) → Progress
before packets = record { held = tab places packets; slots = [] }

-- "The two plans": the way by probe; "Merged readings": it is made as before
abbrev pub by_probe_in : Mode → Bytes → Way
by_probe_in mode s =
    let table = conflict_table s in
    let colours = probe_colours s in
    record {
      probes = probe_count s;
      goes = goes_in mode (parent_of s);
      relation = entry table;
      may = may_in mode (probe_count s) (parent_of s);
      owners = owners_by_probe (by_node colours);
      colours = colours_used colours;
    }

unfoldable pub by_probe : Bytes → Way
by_probe s = by_probe_in Packets s

unfoldable pub merged : Bytes → Way
merged s = by_probe_in Merged s

-- "The two plans": the way by level
unfoldable pub by_level : Bytes → Way
by_level s =
    let table = conflict_table s in
    let colours = level_colours s in
    record {
      probes = probe_count s;
      goes = parent_of s;
      relation = entry table;
      may = may_in Packets (probe_count s) (parent_of s);
      owners = owners_by_level (probe_count s) (entry table) (λ v. get_or colours (level_of s v) 0);
      colours = colours_used colours;
    }

-- "The two plans", "Merged readings": the slots of a plan. A round makes at least one sending, so that the sendings are rounds enough
unfoldable pub slots_in : Mode → (s : Bytes) → Way → Slots
slots_in mode s way = (rounds way (sendings_in mode s) (before (first_in mode s))).slots

abbrev pub slots_of : (s : Bytes) → Way → Slots
slots_of s way = slots_in Packets s way
