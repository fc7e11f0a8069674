-- `conflict::table` meets its contract. The invariant: the table is filled as far as the loop has come.
use Rattle.std.proofs.Common.{◌≡◌, length, take}
use Rattle.meaning.specs.Conflict.{entry}
use Rattle.meaning.specs.Words.{tab, places}
use Rattle.conflict.specs.Heard.{of_probe, either_way}
use Rattle.conflict.proofs.table.Given as goal

abbrev pub invariant-loop-x : goal.invariant-loop-x
invariant-loop-x l = (length l.row-items ≡ 65) × (take l.x l.row-items ≡ tab l.x (λ a. tab places (of_probe l.probes (either_way (entry l.heard)) a)))
