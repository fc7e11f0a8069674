-- The answers of RULES, "Numbers returned", "The wake book", "The telephone", "Merged readings", "Worst and best" and "A graph as text", as C sees them.
use Rattle.std.specs.Prelude.{ℕ}
use Rattle.meaning.specs.declared.Planned.{Planned}
use Rattle.meaning.specs.declared.Judgement.{Judgement}
use Rattle.meaning.specs.Returned.{Booked}
use Rattle.meaning.specs.declared.Told.{Told}
use Rattle.meaning.specs.declared.MergedTold.{MergedTold}
use Rattle.meaning.specs.declared.Choice.{Choice}
use Rattle.meaning.specs.declared.Choice.TheVariants.{Neither, First, Second}
use Rattle.arrangement.specs.Arranged.{SpreadTold}
use Rattle.graph.specs.Drawing.{Drawn}
use Rattle.graph.specs.declared.Graph.{Graph}
use Rattle.gateway.specs.declared.YardPlanned.{YardPlanned}
use Rattle.gateway.specs.declared.YardVerdict.{YardVerdict}
use Rattle.gateway.specs.declared.YardBooked.{YardBooked}
use Rattle.gateway.specs.declared.YardTold.{YardTold}
use Rattle.gateway.specs.declared.YardMergedTold.{YardMergedTold}
use Rattle.gateway.specs.declared.YardSpread.{YardSpread}
use Rattle.gateway.specs.declared.YardDrawn.{YardDrawn}
use Rattle.gateway.specs.declared.YardGraph.{YardGraph}

-- "Numbers returned": number, place, colours, slots and bytes written
abbrev pub flat_planned : Planned → YardPlanned
flat_planned r =
    record { number = r.outcome.number; place = r.outcome.place; colours = r.colours; slots = r.slots; bytes = r.bytes }

-- "Numbers returned", "Whom a refusal names": number, place, slots and both names
abbrev pub flat_verdict : Judgement → YardVerdict
flat_verdict r =
    let verdict = r.verdict in
    record {
      number = verdict.outcome.number;
      place = verdict.outcome.place;
      slots = verdict.slots;
      first = r.names.first;
      second = r.names.second;
    }

-- "The wake book": number, place, both names and bytes written
abbrev pub flat_booked : Booked → YardBooked
flat_booked r =
    let names = r.names in
    record { number = r.outcome.number; place = r.outcome.place; first = names.first; second = names.second; bytes = r.bytes }

-- Demand 3, on the telephone: number, place, the slots at least, in our plan and at most, and how many times anybody's
abbrev pub flat_told : Told → YardTold
flat_told r =
    record { number = r.outcome.number; place = r.outcome.place; least = r.least; ours = r.ours; most = r.most; times = r.times }

-- "Merged readings", on the telephone: number, place, and the slots at least, in our plan and at most
abbrev pub flat_merged_told : MergedTold → YardMergedTold
flat_merged_told r = record { number = r.outcome.number; place = r.outcome.place; least = r.least; ours = r.ours; most = r.most }

-- "Worst and best": number, place, and the slots at best and at worst
abbrev pub flat_spread : SpreadTold → YardSpread
flat_spread r = record { number = r.outcome.number; place = r.outcome.place; best = r.best; worst = r.worst }

-- "A graph as text", written: number, place and bytes
abbrev pub flat_drawn : Drawn → YardDrawn
flat_drawn r = record { number = r.outcome.number; place = r.outcome.place; bytes = r.bytes }

-- "A graph as text", read: number, place and vertices
abbrev pub flat_graph : Graph → YardGraph
flat_graph r = record { number = r.number; place = r.place; vertices = r.vertices }

-- "Numbers returned": which plan the chooser hands back
abbrev pub choice_number : Choice → ℕ
choice_number Neither = 0
choice_number First = 1
choice_number Second = 2
