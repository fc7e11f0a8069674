-- `conflict::level_table` meets its contract. The invariant: the table has the levels that meet by the probes passed.
use Rattle.std.proofs.Common.{◌≡◌, ◌+◌, List, [], Bool, false, length, get_or, sym, ap, ◌∙◌, arith, rules}
use Rattle.std.proofs.Math.ListN.{get_or-eq_default}
use Rattle.meaning.specs.Conflict.{entry}
use Rattle.meaning.specs.Words.{by_node}
use Rattle.conflict.proofs.Tables.{no-marks, no-levels, empty-row, level-table-next, level-table-full, levels_met}
use Rattle.conflict.proofs.level_table.Goals as goal
use Rattle.conflict.proofs.level_table.Goals.{then-x-lt65, else-x-lt65}

pub loop-k-init : goal.loop-k-init
loop-k-init c =
    let a = c.args in
    no-marks 65 (levels_met 0 a.p (by_node a.levels) (entry a.table)) (no-levels a.p (by_node a.levels) (entry a.table))

pub loop-k-preserved : goal.loop-k-preserved
loop-k-preserved c =
    let a = c.args in
    let k = c.loop-k.k in
    let long : length a.table ≡ 65 = search rules in
    let next = level-table-next k a.p (by_node a.levels) (entry a.table) c.loop-k.t c.loop-k.invariant in
    elim c.if-x-lt65.branch [
      | then-x-lt65 w ↦ w.t-is ∙ w.mark_levels.ensures ∙ next
      | else-x-lt65 w ↦
          w.t-is
          ∙ sym (empty-row a.p (by_node a.levels) (entry a.table (k + 2)) (by_node a.levels (k + 2)) c.loop-k.t
          (λ y. ap (λ (row : List Bool). get_or row y false) (get_or-eq_default a.table [] (omega arith))))
          ∙ next
    ]

pub returns : goal.returns
returns c =
    let end : c.loop-k.k ≡ c.args.p = omega arith in
    rw end at c.loop-k.invariant ∙ level-table-full _ _ _
