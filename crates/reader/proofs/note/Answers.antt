-- `reader::note` meets its contract: the tests of the code decide whether the list has room for a number and its count for one more.
use Rattle.std.proofs.Common.{◌≡◌, ℕ, ◌+◌, ◌*◌, ◌<◌, sym, ap, ◌∙◌, arith}
use Rattle.meaning.specs.Sheet.{two_at}
use Rattle.reader.specs.Noted.{two_set}
use Rattle.reader.proofs.NotingBytes.{no_room, no-count, noted-there}
use Rattle.reader.proofs.note.Goals as goal
use Rattle.reader.proofs.note.Goals.{then-room-lt4-via-then-room-lt4, then-room-lt4-via-else-room-lt4+then-room-place, then-room-behind-via-then-room-behind, then-room-behind-via-else-room-behind+then-many}

pub returns-then-room-lt4 : goal.returns-then-room-lt4
returns-then-room-lt4 c =
    let a = c.args in
    elim c.then-room-lt4.branch [
      | then-room-lt4-via-then-room-lt4 w ↦ sym (no_room a.place a.slot.0 a.book.now (omega arith))
      | then-room-lt4-via-else-room-lt4+then-room-place w ↦ sym (no_room a.place a.slot.0 a.book.now (omega arith))
    ]

pub returns-then-room-behind : goal.returns-then-room-behind
returns-then-room-behind c =
    let a = c.args in
    let many : c.from_be_bytes-many.result ≡ two_at a.book.now a.place = omega (arith, c.from_be_bytes-many.ensures) in
    elim c.then-room-behind.branch [
      | then-room-behind-via-then-room-behind w ↦ sym (no_room a.place a.slot.0 a.book.now (omega arith))
      | then-room-behind-via-else-room-behind+then-many w ↦ sym (no-count a.place a.slot.0 a.book.now (omega arith))
    ]

pub returns : goal.returns
returns c =
    let a = c.args in
    let book = a.book.now in
    let many : c.from_be_bytes-many.result ≡ two_at book a.place = omega (arith, c.from_be_bytes-many.ensures) in
    let fits : two_at book a.place < 65535 = omega arith in
    c.put_two-2.ensures
    ∙ ap (two_set a.place (c.from_be_bytes-many.result + 1)) c.put_two.ensures
    ∙ ap (λ (n : ℕ). two_set a.place (n + 1) (two_set (a.place + 2 + 2 * n) a.slot.0 book)) many
    ∙ sym (noted-there a.place a.slot.0 book (omega arith) fits)
