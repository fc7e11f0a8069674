-- What a planner's answer is put together from.
use Rattle.std.specs.Prelude.{◌≡◌, Bool, List, ℕ, ◌≤◌, ltb, length}
use Rattle.meaning.specs.declared.Mode.{Mode}
use Rattle.meaning.specs.declared.Outcome.{Outcome}
use Rattle.meaning.specs.declared.Planned.{Planned}
use Rattle.sheet.specs.declared.Tree.{Tree}
use Rattle.meaning.specs.Plan.{plan_bytes, room_for, front}
use Rattle.meaning.specs.Rounds.{sendings_in}
use Rattle.meaning.specs.Answer.{accepted, given, ◌then◌, sheet_test}
use Rattle.plan.specs.TurnByTurn.{way_on, held_by, sendings_by, slots_by}

-- the tests of sheet and room, as the planners run them
abbrev pub ground_test : Mode → List ℕ → ℕ → Outcome
ground_test mode s room = sheet_test s then given 9 0 (ltb room (room_for (sendings_in mode s)))

-- the slots of the plan that is made of a tree, a table of conflicts and m colours
abbrev pub slots_on : Mode → Tree → List (List Bool) → List ℕ → ℕ → List (List ℕ)
slots_on mode tree table own m =
    slots_by (way_on mode tree.probes tree.parents own m table) (sendings_by mode tree.probes tree.hops) (held_by mode tree.probes tree.packets)

-- the plan is written and answered for
pub record Finished (plan : List (List ℕ)) (m : ℕ) (buffer buffer' : List ℕ) (answer : Planned) : Type 0 where
  pub few : length plan ≤ 65535
  pub answers : answer ≡ record { outcome = accepted; colours = m; slots = length plan; bytes = length (plan_bytes plan) }
  pub wrote : buffer' ≡ front buffer (plan_bytes plan)
