-- `chosen::Turn::join` meets its contract: the first k probes have had their turn, and `blocked` is what those chosen conflict with.
use Rattle.meaning.specs.Conflict.{entry}
use Rattle.chosen.specs.Kept.{flag, Joining}
use Rattle.chosen.proofs.Turn.join.Given as goal

abbrev pub invariant-loop-k : goal.invariant-loop-k
invariant-loop-k l = Joining (entry l.self.table.now) (flag l.may) l.initial.chosen l.k l.chosen l.blocked
