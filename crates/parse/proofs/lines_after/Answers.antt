-- `parse::lines_after` meets its contract: as far as a newline, what is left of the piece answers the whole; a part that reaches the end is no ended line.
use Prim.Native.Nat.{◌+◌, ◌≤◌}
use native.Mathlib.Omega.{arith}
use lib.ListN.{length}
use Rattle.parse.proofs.Whole.{lent, line-long, next-within, going-starts, going-stops, going_on, going-ends}
use Rattle.parse.proofs.lines_after.Goals as goal

pub loop-at-init : goal.loop-at-init
loop-at-init c = going-starts _ _ _

pub returns-then-n-rest : goal.returns-then-n-rest
returns-then-n-rest c =
    let all =
    going-stops _ _ _ _ _ c.loop-at.invariant _ (lent c.args.piece.now c.loop-at.at) _ c.part_length-n.ensures c.if-n-rest.true
    in
    record { state = all.0; place = all.1.0; behind = all.1.1.0; table = all.1.1.1 }

pub slice_bounds-line_read-end : goal.slice_bounds-line_read-end
slice_bounds-line_read-end c = line-long _ _ c.part_length-n.ensures

pub overflow_add-at : goal.overflow_add-at
overflow_add-at c =
    let end : c.loop-at.at + (c.part_length-n.result + 1) ≤ length c.args.piece.now =
    next-within _ _ _ _ _ c.loop-at.invariant _ (lent c.args.piece.now c.loop-at.at) _ c.part_length-n.ensures c.if-n-rest.false
    in
    record { fits = omega arith }

pub overflow_add-at-in-loop-at : goal.overflow_add-at-in-loop-at
overflow_add-at-in-loop-at c =
    let end : c.loop-at.at + (c.part_length-n.result + 1) ≤ length c.args.piece.now =
    next-within _ _ _ _ _ c.loop-at.invariant _ (lent c.args.piece.now c.loop-at.at) _ c.part_length-n.ensures c.if-n-rest.false
    in
    record { fits = omega arith }

pub loop-at-preserved : goal.loop-at-preserved
loop-at-preserved c =
    going_on _ _ _ _ _ c.loop-at.invariant _ (lent c.args.piece.now c.loop-at.at) _ c.part_length-n.ensures c.if-n-rest.false _ _
    c.line_read-so_far.ensures.state c.line_read-so_far.ensures.table

pub returns : goal.returns
returns c =
    let all = going-ends _ _ _ _ _ c.loop-at.invariant c.loop-at-test.false in
    record { state = all.0; place = all.1.0; behind = all.1.1.0; table = all.1.1.1 }
