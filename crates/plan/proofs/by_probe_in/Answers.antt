-- `plan::by_probe_in` meets its contract: a refusal is what the tests say, and the plan made in the code's way is the plan by probe.
use Rattle.std.proofs.lemmas.Result.{err_from_is_err_and}
use Rattle.meaning.specs.Rounds.{by_probe_in}
use Rattle.laws.proofs.Refused.{passed}
use Rattle.plan.proofs.Answered.{refuses, to_fill, by-probe, finishes}
use Rattle.plan.proofs.by_probe_in.Goals as goal

pub returns-in_err-tree : goal.returns-in_err-tree
returns-in_err-tree c =
    let a = c.args in
    let refused = refuses a.mode a.sheet.now a.buf.now (by_probe_in a.mode) _ c.in_err-tree.ensures in
    let e = err_from_is_err_and c.from_residual.result c.from_residual.ensures.1 in
    record { answer = rw (e.1, e.2) refused.0; buffer = refused.1 }

pub finish-requires : goal.finish-requires
finish-requires c =
    let a = c.args in
    let tree = c.in_ok-tree in
    to_fill a.mode a.sheet.now a.buf.now tree.tree (passed tree.ensures.0) tree.ensures.1

pub returns : goal.returns
returns c =
    let a = c.args in
    let s = a.sheet.now in
    let tree = c.in_ok-tree in
    let coloured = c.colouring-own in
    let used = c.used-m in
    let plan =
    by-probe a.mode s a.buf.now tree.tree (passed tree.ensures.0) tree.ensures.1 _ c.conflicts-table.ensures coloured.result used.result coloured.ensures used.ensures
    in
    let all = finishes a.mode s a.buf.now tree.tree (passed tree.ensures.0) tree.ensures.1 (by_probe_in a.mode) _ _ _ _ plan.0 plan.1 c.finish.ensures in
    record { answer = all.0; buffer = all.1 }
