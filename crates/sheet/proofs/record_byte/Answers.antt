-- `sheet::record_byte` meets its contract: the laws of a node below the probes, above them, and of a probe.
use Rattle.sheet.proofs.Parts.{node-below, node-above, node-probe}
use Rattle.sheet.proofs.record_byte.Goals as goal

pub returns-then-v-lt2 : goal.returns-then-v-lt2
returns-then-v-lt2 c =
    node-below _ _ _ _ c.if-v-lt2.true

pub returns-then-n-v : goal.returns-then-n-v
returns-then-n-v c =
    node-above _ _ _ _ c.if-n-v.true

pub returns : goal.returns
returns c =
    node-probe _ _ _ _ c.if-v-lt2.false c.if-n-v.false _ c.number_at.ensures
