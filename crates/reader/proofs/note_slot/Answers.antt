-- `reader::note_slot` meets its contract. The invariant: the senders passed are noted.
use Rattle.std.proofs.Common.{◌≡◌, length, refl, arith}
use Rattle.meaning.specs.Words.{for_each}
use Rattle.reader.specs.Noted.{noted_slot}
use Rattle.reader.proofs.NotingBytes.{sender-next}
use Rattle.reader.proofs.note_slot.Goals as goal

pub loop-sender-init : goal.loop-sender-init
unfolding for_each
loop-sender-init c = refl

pub loop-sender-preserved : goal.loop-sender-preserved
loop-sender-preserved c =
    let a = c.args in
    let turn = c.loop-sender in
    sender-next _ _ a.senders.now turn.sender-index a.book.now _ _ turn.invariant c.note_sender.ensures

pub returns : goal.returns
unfolding noted_slot
returns c =
    let done = c.loop-sender in
    let full : done.sender-index ≡ length c.args.senders.now = omega arith in
    rw full at done.invariant
