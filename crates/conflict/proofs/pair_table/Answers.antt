-- `conflict::pair_table` meets its contract. The invariant: the table is made of the records passed.
use Rattle.std.proofs.Common.{◌∙◌}
use Rattle.conflict.proofs.Tables.{no-marks, no_record, record-marked}
use Rattle.conflict.proofs.pair_table.Goals as goal

pub loop-k-init : goal.loop-k-init
loop-k-init c = no-marks 256 _ (no_record c.args.records.now)

pub loop-k-preserved : goal.loop-k-preserved
loop-k-preserved c = c.mark-in-loop-k.ensures ∙ cc (record-marked c.args.records.now c.loop-k.k)
