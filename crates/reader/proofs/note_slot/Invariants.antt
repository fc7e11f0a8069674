-- `reader::note_slot` meets its contract. The invariant: the senders passed are noted.
use Rattle.std.proofs.Common.{◌≡◌, get_or}
use Rattle.meaning.specs.Words.{for_each}
use Rattle.reader.specs.Noted.{noted_sender}
use Rattle.reader.proofs.note_slot.Given as goal

abbrev pub invariant-loop-sender : goal.invariant-loop-sender
invariant-loop-sender l = l.book ≡ for_each l.sender-index (λ j. noted_sender l.places l.slot.0 (get_or l.senders j 0)) l.initial.book
