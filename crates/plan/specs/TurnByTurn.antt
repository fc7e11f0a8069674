-- What the planner's code has come to after some turns and rounds.
use Rattle.std.specs.Prelude.{◌≡◌, Bool, List, [], ℕ, ◌-◌, ◌≤◌, length}
use Rattle.meaning.specs.declared.Mode.{Mode}
use Rattle.meaning.specs.declared.Mode.TheVariants.{Packets, Merged}
use Rattle.plan.specs.declared.Way as code
use Rattle.meaning.specs.Words.{by_node}
use Rattle.meaning.specs.Yard.{level_by}
use Rattle.meaning.specs.Plan.{front, slot_bytes, plan_bytes}
use Rattle.meaning.specs.Conflict.{entry}
use Rattle.meaning.specs.Rounds.{Progress, Way, may_in, goes_in, owners_by_level, round, rounds}
use Rattle.laws.specs.Few.{at_most63}
use Rattle.laws.proofs.Moving.{weigh}
use Rattle.chosen.specs.TurnSlot.{turn_by}
use Rattle.sending.specs.First.{first_held}
use Rattle.plan.specs.ColourTurn.{Ready}

-- the way over a table of conflicts: `own` is each probe's colour, or that of its level
abbrev pub way_on : Mode → (p : ℕ) → (parents own : List ℕ) → (m : ℕ) → (table : List (List Bool)) → Way
way_on mode p parents own m table =
    record {
      probes = p;
      goes = goes_in mode (by_node parents);
      relation = entry table;
      may = may_in mode p (by_node parents);
      owners = owners_by_level p (entry table) (by_node own);
      colours = m;
    }

-- where what is sent goes on the code's way
abbrev pub goes_by : code.Way → ℕ → ℕ
goes_by by = goes_in by.mode (by_node by.parents.now)

-- what the code's way means
abbrev pub way_by : code.Way → Way
way_by by = way_on by.mode by.probes by.parents.now by.own.now by.colours by.table.now

-- the slot of a colour, by what is held
abbrev pub turn_on : code.Way → (s : ℕ) → (held : List ℕ) → List (List ℕ)
turn_on by s held = turn_by by.probes by.table.now by.own.now s (may_in by.mode by.probes (by_node by.parents.now) held)

-- what is held and no slots yet
abbrev pub from : List ℕ → Progress
from held = record { held = held; slots = [] }

-- a round that begins with what is held
abbrev pub round_by : code.Way → (held : List ℕ) → Progress
round_by by held = round (way_by by) (from held)

-- the progress as the code has it: what is held, the slots at the start of the rest, their bytes and number; and what the next turn may count on
pub record Going (p : ℕ) (parent : ℕ → ℕ) (now : Progress) (held rest rest' : List ℕ) (bytes slots : ℕ) : Type 0 where
  pub holding : held ≡ now.held
  pub counted : bytes ≡ length (slot_bytes now.slots)
  pub made : slots ≡ length now.slots
  pub wrote : rest' ≡ front rest (slot_bytes now.slots)
  pub within : bytes ≤ length rest
  pub fewer : slots ≤ bytes
  pub ready : Ready p parent held (length rest - bytes)

-- what is held before the first slot, and how many sendings bring it in: the packets and their hops, or one reading a probe
abbrev pub held_by : Mode → ℕ → List ℕ → List ℕ
held_by mode p packets = first_held mode (at_most63 p) packets

abbrev pub sendings_by : Mode → ℕ → ℕ → ℕ
sendings_by Packets p hops = hops
sendings_by Merged p hops = p

-- the slots of the plan that begins with what is held
abbrev pub slots_by : Way → (sendings : ℕ) → (held : List ℕ) → List (List ℕ)
slots_by way sendings held = (rounds way sendings (from held)).slots

-- what the filling of a buffer may count on: what its first turn may, behind two bytes, and sendings that two bytes can say
pub record ToFill (mode : Mode) (p : ℕ) (parents packets : List ℕ) (room : ℕ) : Type 0 where
  pub two : 2 ≤ room
  pub ready : Ready p (goes_in mode (by_node parents)) (held_by mode p packets) (room - 2)
  pub few : weigh (level_by p (goes_in mode (by_node parents))) (held_by mode p packets) ≤ 65535

-- the plan is written: its bytes at the start of the buffer, and behind them what was there
pub record Filled (plan : List (List ℕ)) (buffer buffer' : List ℕ) (bytes slots : ℕ) : Type 0 where
  pub few : length plan ≤ 65535
  pub made : slots ≡ length plan
  pub counted : bytes ≡ length (plan_bytes plan)
  pub wrote : buffer' ≡ front buffer (plan_bytes plan)
