-- `lines::put_senders` meets its contract. The invariant: the senders before this one are put.
use mathlib.Core.Path.{refl}
use Rattle.lines.proofs.SendersText.{senders-start, senders-room, senders-put, senders-all}
use native.Mathlib.Omega.{arith}
use Rattle.lines.proofs.put_senders.Goals as goal

pub loop-v-init : goal.loop-v-init
loop-v-init c = senders-start _ c.args.senders.now _

pub put_sender-end-requires : goal.put_sender-end-requires
put_sender-end-requires c =
    let turn = c.loop-v in
    let room = senders-room c.args.senders.now turn.v-index _ c.loop-v-test.true refl in
    omega (arith, room, turn.invariant.ends, turn.auto.out, c.requires)

pub loop-v-preserved : goal.loop-v-preserved
loop-v-preserved c =
    let turn = c.loop-v in
    senders-put _ turn.v-index _ c.loop-v-test.true refl turn.invariant c.put_sender-end.ensures

pub returns : goal.returns
returns c = senders-all _ c.loop-v.v-index (omega arith) c.loop-v.invariant
