-- `draw::graph_made` meets its contract, by its three ways out: the sheet is refused, the buffer is too short, the text is copied.
use Rattle.std.proofs.lemmas.Result.{err_from_is_err_and}
use Rattle.draw.proofs.Made.{refuses, most, short, copied}
use Rattle.draw.proofs.graph_made.Goals as goal

pub returns-in_err-tree : goal.returns-in_err-tree
returns-in_err-tree c =
    let all = refuses c.args.sheet.now c.args.out.now _ c.in_err-tree.ensures in
    let e = err_from_is_err_and c.from_residual.result c.from_residual.ensures.1 in
    rw (e.1, e.2) (record { part = all.0; answer = all.1.0; buffer = all.1.1 })

pub copy_text-copied-requires : goal.copy_text-copied-requires
copy_text-copied-requires c =
    let tree = c.in_ok-tree in
    most c.args.sheet.now tree.tree tree.ensures.0 tree.ensures.1 c.conflicts-table.ensures

pub returns-in_default : goal.returns-in_default
returns-in_default c =
    let tree = c.in_ok-tree in
    let all =
    short c.args.sheet.now tree.tree tree.ensures.0 tree.ensures.1 c.conflicts-table.ensures c.args.out.now _ c.in_default.ensures in
    record { part = all.0; answer = all.1.0; buffer = all.1.1 }

pub returns : goal.returns
returns c =
    let tree = c.in_ok-tree in
    let all =
    copied c.args.sheet.now tree.tree tree.ensures.0 tree.ensures.1 c.conflicts-table.ensures c.args.out.now _ _ c.in-Some.ensures in
    record { part = all.0; answer = all.1.0; buffer = all.1.1 }
