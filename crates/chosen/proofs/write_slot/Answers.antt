-- `chosen::write_slot` meets its contract: with no owner nothing is written, and otherwise the writer's slot, near a buffer's end by way of another list.
use lib.ListN.{replicate}
use Rattle.chosen.proofs.SlotWritten.{none_written, may_write, all-written, short-ends, short-many, short-written}
use native.Mathlib.Omega.{arith}
use Rattle.chosen.proofs.write_slot.Goals as goal

pub returns-then-not-choose : goal.returns-then-not-choose
returns-then-not-choose c =
    let all = none_written _ c.at_most_63.ensures c.choose.ensures c.if-not-choose.true _ in
    record { answer = all.0; rest = all.1 }

pub write_senders-bytes-requires : goal.write_senders-bytes-requires
write_senders-bytes-requires c =
    let all = may_write _ c.at_most_63.ensures c.choose.ensures c.if-not-choose.false (omega arith) in
    record { known = all.2; room = all.3 }

pub slice_bounds-slot-end : goal.slice_bounds-slot-end
slice_bounds-slot-end c =
    let few = c.at_most_63.ensures in
    short-ends _ few c.choose.ensures c.if-not-choose.false (replicate 64 0) _ _ (omega arith) c.write_senders-bytes.ensures

pub slice_bounds-put_whole-end : goal.slice_bounds-put_whole-end
slice_bounds-put_whole-end c =
    let few = c.at_most_63.ensures in
    short-many _ few c.choose.ensures c.if-not-choose.false (replicate 64 0) _ _ (omega arith) c.write_senders-bytes.ensures

pub returns-then-rest-lt64 : goal.returns-then-rest-lt64
returns-then-rest-lt64 c =
    let few = c.at_most_63.ensures in
    let put = c.put_whole.ensures in
    let all = short-written _ few c.choose.ensures c.if-not-choose.false (replicate 64 0) _ _ (omega arith) c.write_senders-bytes.ensures
    c.args.rest.now _ _ put.answer put.rest in
    record { answer = all.0; rest = all.1 }

pub write_senders-requires : goal.write_senders-requires
write_senders-requires c =
    let all = may_write _ c.at_most_63.ensures c.choose.ensures c.if-not-choose.false (omega arith) in
    record { known = all.2; room = all.3 }

pub returns : goal.returns
returns c =
    let few = c.at_most_63.ensures in
    let all = all-written _ few c.choose.ensures c.if-not-choose.false _ _ _ c.if-rest-lt64.false
    c.write_senders.ensures in
    record { answer = all.0; rest = all.1 }
