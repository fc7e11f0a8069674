-- `conflict::mark_levels` meets its contract. The invariant: the marks of the probes passed are made.
use Rattle.std.proofs.Common.{false, refl, ◌∙◌, arith}
use Rattle.std.proofs.Math.ListN.{get_or-eq_default}
use Rattle.meaning.specs.Words.{for_each}
use Rattle.conflict.specs.Marks.{levels_marked}
use Rattle.conflict.proofs.Tables.{turn-other, turn-own, turn-none}
use Rattle.conflict.proofs.mark_levels.Goals as goal
use Rattle.conflict.proofs.mark_levels.Goals.{then-y-lt65+then-row-y+then-a-b, then-y-lt65+then-row-y+else-a-b, else-y-lt65, else-y-lt65-via-then-y-lt65+else-row-y, else-y-lt65-via-else-y-lt65}

pub loop-k-init : goal.loop-k-init
unfolding levels_marked for_each
loop-k-init c = refl

pub loop-k-preserved : goal.loop-k-preserved
loop-k-preserved c =
    let now = c.loop-k.invariant in
    elim c.if-y-lt65.branch [
      | then-y-lt65+then-row-y+then-a-b w ↦ w.t-is ∙ w.mark.ensures ∙ turn-other _ _ _ _ _ _ now w.if-row-y.true w.if-a-b.true
      | then-y-lt65+then-row-y+else-a-b w ↦ w.t-is ∙ turn-own _ _ _ _ _ _ now w.if-row-y.true w.if-a-b.false
      | else-y-lt65 w ↦
          w.t-is ∙ elim w.else-y-lt65.branch [
            | else-y-lt65-via-then-y-lt65+else-row-y v ↦ turn-none _ _ _ _ _ _ now v.if-row-y.false
            | else-y-lt65-via-else-y-lt65 v ↦ turn-none _ _ _ _ _ _ now (get_or-eq_default c.args.row.now false (omega arith))
          ]
    ]
