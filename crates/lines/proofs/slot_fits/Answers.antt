-- `lines::slot_fits` meets its contract. The invariant: what is left of the room behind the senders before this one.
use Rattle.lines.proofs.SendersText.{fits-never, fits-start, fits-short, fits_next, fits_all}
use mathlib.Core.Path.{refl}
use native.Mathlib.Omega.{arith}
use Rattle.lines.proofs.slot_fits.Goals as goal

pub returns-then-room-around : goal.returns-then-room-around
returns-then-room-around c =
    fits-never _ _ _ _ c.digits.ensures.count c.if-room-around.true

pub loop-v-init : goal.loop-v-init
loop-v-init c = fits-start _ _ _ _ c.digits.ensures.count c.if-room-around.false

pub returns-then-left-need : goal.returns-then-left-need
returns-then-left-need c =
    let turn = c.loop-v in
    fits-short _ _ _ turn.left turn.v-index _ _ c.loop-v-test.true refl c.digits-in-loop-v.ensures.count turn.invariant c.if-left-need.true

pub loop-v-preserved : goal.loop-v-preserved
loop-v-preserved c =
    let turn = c.loop-v in
    fits_next _ _ _ turn.left turn.v-index _ _ c.loop-v-test.true refl c.digits-in-loop-v.ensures.count turn.invariant c.if-left-need.false

pub returns : goal.returns
returns c = fits_all _ _ _ c.loop-v.left c.loop-v.v-index (omega arith) c.loop-v.invariant
