-- `listing::slot_lines` meets its contract. The invariant: the lines of the first k slots stand at the start of the buffer, and those that are left
-- make the whole with them.
use Rattle.listing.proofs.LineByLine.{listing_start, listing-long, listing-within, listing-all, listing-end, listing-next}
use native.Mathlib.Omega.{arith}
use borrow.Author.Rules.{rules}
use Rattle.listing.proofs.slot_lines.Goals as goal

pub loop-k-init : goal.loop-k-init
loop-k-init c =
    let start = c in
    listing_start start.args.plan.now start.args.out.now start.args.slots start.requires

pub slice_bounds-slot_line-count : goal.slice_bounds-slot_line-count
slice_bounds-slot_line-count c =
    listing-within c.loop-k.invariant

pub slice_bounds-slot_line-start : goal.slice_bounds-slot_line-start
slice_bounds-slot_line-start c =
    listing-within c.loop-k.invariant

pub overflow_add-at : goal.overflow_add-at
overflow_add-at c =
    let l = c.loop-k in
    let senders = c.senders_at-senders in
    let line = c.slot_line-at in
    omega (
      arith,
      listing-end l.invariant c.loop-k-test.true
          senders.result.now senders.ensures line.result line.ensures.answer,
    )

pub loop-k-preserved : goal.loop-k-preserved
loop-k-preserved c =
    let l = c.loop-k in
    let senders = c.senders_at-senders in
    let line = c.slot_line-at in
    let number = c.number_at in
    listing-next l.invariant c.loop-k-test.true _
    senders.ensures _ _ _ line.ensures.answer line.ensures.buffer number.ensures (search rules)

pub shape_of-out : goal.shape_of-out
shape_of-out c =
    listing-long c.loop-k.invariant

pub returns : goal.returns
returns c =
    let all = listing-all c.loop-k.invariant (omega arith) in record { answer = all.0; buffer = all.1 }
