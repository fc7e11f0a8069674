-- `plan::Way::round` meets its contract: the first s colours have had their turn, and each slot stands behind the one before.
use Rattle.plan.specs.TurnByTurn.{goes_by, Going}
use Rattle.plan.proofs.TurnByTurn.{turns}
use Rattle.plan.proofs.Way.round.Given as goal

abbrev pub invariant-loop-s : goal.invariant-loop-s
invariant-loop-s l = Going l.self.probes (goes_by l.self) (turns l.self l.s l.initial.held) l.held l.initial.rest l.rest l.at l.slots
