-- `conflict::level_table` meets its contract. The invariant: the table has the levels that meet by the probes passed.
use Rattle.std.proofs.Common.{◌≡◌}
use Rattle.meaning.specs.Conflict.{table_of, entry}
use Rattle.meaning.specs.Words.{by_node}
use Rattle.conflict.proofs.Tables.{levels_met}
use Rattle.conflict.proofs.level_table.Given as goal

abbrev pub invariant-loop-k : goal.invariant-loop-k
invariant-loop-k l = l.t ≡ table_of (levels_met l.k l.p (by_node l.levels) (entry l.table))
