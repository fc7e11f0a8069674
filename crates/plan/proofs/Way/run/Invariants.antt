-- `plan::Way::run` meets its contract: r rounds are made, and while anything is outside another one follows.
use Rattle.meaning.specs.Rounds.{rounds}
use Rattle.plan.specs.TurnByTurn.{goes_by, way_by, from, Going}
use Rattle.plan.proofs.Way.run.Given as goal

abbrev pub invariant-loop-r : goal.invariant-loop-r
invariant-loop-r l = Going l.self.probes (goes_by l.self) (rounds (way_by l.self) l.r (from l.initial.held)) l.held l.initial.rest l.rest l.at l.slots
