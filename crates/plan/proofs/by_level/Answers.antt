-- `plan::by_level` meets its contract: a refusal is what the tests say, and the plan made in the code's way is the plan by level.
use Rattle.std.proofs.lemmas.Result.{err_from_is_err_and}
use Rattle.meaning.specs.declared.Mode.TheVariants.{Packets}
use Rattle.meaning.specs.Rounds.{by_level}
use Rattle.laws.proofs.Refused.{passed}
use Rattle.plan.proofs.Answered.{refuses, to_fill, by-level, finishes}
use Rattle.plan.proofs.by_level.Goals as goal

pub returns-in_err-tree : goal.returns-in_err-tree
returns-in_err-tree c =
    let a = c.args in
    let refused = refuses Packets a.sheet.now a.buf.now by_level _ c.in_err-tree.ensures in
    let e = err_from_is_err_and c.from_residual.result c.from_residual.ensures.1 in
    record { answer = rw (e.1, e.2) refused.0; buffer = refused.1 }

pub finish-requires : goal.finish-requires
finish-requires c =
    let a = c.args in
    let tree = c.in_ok-tree in
    to_fill Packets a.sheet.now a.buf.now tree.tree (passed tree.ensures.0) tree.ensures.1

pub returns : goal.returns
returns c =
    let a = c.args in
    let s = a.sheet.now in
    let tree = c.in_ok-tree in
    let depth = c.depth-depth in
    let above = c.level_table-above in
    let coloured = c.colouring-colours in
    let own = c.colours_by_level-own in
    let used = c.used-m in
    let plan =
    by-level s a.buf.now tree.tree (passed tree.ensures.0) tree.ensures.1 _ c.conflicts-table.ensures depth.result _ coloured.result own.result used.result
    depth.ensures above.ensures coloured.ensures own.ensures used.ensures
    in
    let all = finishes Packets s a.buf.now tree.tree (passed tree.ensures.0) tree.ensures.1 by_level _ _ _ _ plan.0 plan.1 c.finish.ensures in
    record { answer = all.0; buffer = all.1 }
