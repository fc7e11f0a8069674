-- `conflict::pair_table` meets its contract. The invariant: the table is made of the records passed.
use Rattle.std.proofs.Common.{◌≡◌}
use Rattle.meaning.specs.Sheet.{interfere}
use Rattle.conflict.specs.Marks.{rows_of}
use Rattle.conflict.proofs.pair_table.Given as goal

abbrev pub invariant-loop-k : goal.invariant-loop-k
invariant-loop-k l = l.t ≡ rows_of 256 (λ b y. interfere l.records l.k y b)
