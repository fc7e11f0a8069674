-- `plan::prepare` meets its contract: the sheet decides, and behind it the room.
use mathlib.Core.Path.{◌∙◌}
use Rattle.std.proofs.lemmas.Result.{err_from_is_err_and}
use Rattle.laws.proofs.Refused.{passed}
use Rattle.plan.proofs.Preparing.{sheet-refuses, room-decides}
use Rattle.plan.proofs.prepare.Goals as goal

pub returns-in_err-tree : goal.returns-in_err-tree
returns-in_err-tree c =
    let e = err_from_is_err_and c.from_residual.result c.from_residual.ensures.1 in
    rw (e.1, e.2) (sheet-refuses _ _ _ _ c.in_err-tree.ensures)

pub returns-in_err-room_test : goal.returns-in_err-room_test
returns-in_err-room_test c =
    let tree = c.in_ok-tree.ensures in
    let e = err_from_is_err_and c.from_residual-in_err-room_test.result c.from_residual-in_err-room_test.ensures.1 in
    rw (e.1, e.2) (c.in_err-room_test.ensures ∙ room-decides c.args.mode c.args.sheet.now _ (passed tree.0) _ _ tree.1 c.sendings_in.ensures)

pub returns : goal.returns
returns c =
    let tree = c.in_ok-tree.ensures in
    let room = c.in_ok-room_test.ensures ∙ room-decides c.args.mode c.args.sheet.now _ (passed tree.0) _ _ tree.1 c.sendings_in.ensures in
    (room, tree.1)
