-- `lines::slot_line` meets its contract: the parts of the line are put one behind the other, where the buffer has room for all of them.
use mathlib.Core.Path.{ap}
use mathlib.Core.Bool.{not}
use native.Mathlib.Omega.{arith}
use lib.ListN.{length}
use Rattle.meaning.specs.Lister.{text, slot_line}
use Rattle.lines.proofs.Putting.{put-more, put-long}
use Rattle.lines.proofs.Lined.{line-short, line-put, slot-length}
use Rattle.lines.proofs.SendersText.{slot-short, slot-room}
use Rattle.lines.proofs.slot_line.Goals as goal

pub returns-then-not-slot_fits : goal.returns-then-not-slot_fits
returns-then-not-slot_fits c =
    let a = c.args in
    let untouched = line-short _ (slot_line a.number.0 a.senders.now) (slot-short _ _ _ _ c.slot_fits.ensures (ap not c.if-not-slot_fits.true)) in
    record { answer = untouched.0; buffer = untouched.1 }

pub put_number-at-requires : goal.put_number-at-requires
put_number-at-requires c =
    let a = c.args in
    let room = slot-room a.number.0 a.senders.now (length a.out.now) _ c.slot_fits.ensures (ap not c.if-not-slot_fits.false) in
    omega (arith, room, slot-length a.number.0 a.senders.now)

pub put_text-colon-requires : goal.put_text-colon-requires
put_text-colon-requires c =
    let a = c.args in
    let room = slot-room a.number.0 a.senders.now (length a.out.now) _ c.slot_fits.ensures (ap not c.if-not-slot_fits.false) in
    let number = c.put_number-at.ensures in
    omega (arith, room, slot-length a.number.0 a.senders.now, number.ends, put-long number)

pub put_senders-end-requires : goal.put_senders-end-requires
put_senders-end-requires c =
    let a = c.args in
    let room = slot-room a.number.0 a.senders.now (length a.out.now) _ c.slot_fits.ensures (ap not c.if-not-slot_fits.false) in
    let number = c.put_number-at.ensures in
    let colon = c.put_text-colon.ensures in
    omega (arith, room, slot-length a.number.0 a.senders.now, number.ends, put-long number, colon.ends, put-long colon)

pub put_text-requires : goal.put_text-requires
put_text-requires c =
    let a = c.args in
    let room = slot-room a.number.0 a.senders.now (length a.out.now) _ c.slot_fits.ensures (ap not c.if-not-slot_fits.false) in
    let number = c.put_number-at.ensures in
    let colon = c.put_text-colon.ensures in
    let senders = c.put_senders-end.ensures in
    omega (arith, room, slot-length a.number.0 a.senders.now, number.ends, put-long number, colon.ends, put-long colon, senders.ends, put-long senders)

pub returns : goal.returns
unfolding text slot_line
returns c =
    let parts = put-more (put-more (put-more c.put_number-at.ensures c.put_text-colon.ensures) c.put_senders-end.ensures) c.put_text.ensures in
    let line = line-put (slot-room _ _ _ _ c.slot_fits.ensures (ap not c.if-not-slot_fits.false)) parts in
    record { answer = line.0; buffer = line.1 }
