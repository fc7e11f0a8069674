-- `reader::note_sender` meets its contract: both places stand side by side, at twice the sender.
use mathlib.Core.Path.{sym, ap, ◌∙◌}
use Prim.Native.Nat.{◌+◌, ◌*◌}
use lib.ListN.{get_or}
use Rattle.reader.specs.Noted.{noted}
use Rattle.reader.proofs.NotingBytes.{no-sender, a-sender}
use Rattle.reader.proofs.note_sender.Goals as goal

pub returns-then-sender-ge65 : goal.returns-then-sender-ge65
returns-then-sender-ge65 c =
    let a = c.args in
    sym (no-sender a.places.now a.slot.0 a.sender a.book.now c.if-sender-ge65.true)

pub returns : goal.returns
returns c =
    let a = c.args in
    c.note-2.ensures
    ∙ ap (noted (get_or a.places.now (2 * a.sender + 1) 0) a.slot.0) c.note.ensures
    ∙ sym (a-sender a.places.now a.slot.0 a.sender a.book.now c.if-sender-ge65.false)
