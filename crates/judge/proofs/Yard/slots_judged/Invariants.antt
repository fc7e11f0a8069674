-- `judge::slots_judged` meets its contract: as far as slot k the definition has come to the same, and nothing is wrong yet.
use Rattle.meaning.specs.Words.{by_node}
use Rattle.meaning.specs.Conflict.{entry}
use Rattle.meaning.specs.Answer.{accepted}
use Rattle.judge.proofs.SlotBySlot.{Going}
use Rattle.judge.proofs.Yard.slots_judged.Given as goal

abbrev pub invariant-loop-k : goal.invariant-loop-k
invariant-loop-k l = Going l.self.mode l.self.probes (by_node l.self.parents.now) (entry l.self.table.now) l.plan l.many l.initial.held l.k accepted l.at l.held
