-- `lines::slot_fits` meets its contract. The invariant: what is left of the room behind the senders before this one.
use Rattle.lines.proofs.SendersText.{RoomLeft}
use Rattle.lines.proofs.slot_fits.Given as goal

abbrev pub invariant-loop-v : goal.invariant-loop-v
invariant-loop-v l = RoomLeft l.n l.senders l.room l.left l.v-index
