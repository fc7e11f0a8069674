-- `conflict::Links::heard_table` meets its contract. The invariant: the table is filled as far as the loop has come.
use Rattle.std.proofs.Common.{◌≡◌, length, take}
use Rattle.meaning.specs.Words.{tab, places}
use Rattle.conflict.specs.Heard.{heard_row}
use Rattle.conflict.proofs.Links.heard_table.Given as goal

abbrev pub invariant-loop-x : goal.invariant-loop-x
invariant-loop-x l = (length l.t ≡ 65) × (take l.x l.t ≡ tab l.x (λ a. tab places (heard_row l.self.probes.now l.self.parents.now l.self.pairs.now a)))
