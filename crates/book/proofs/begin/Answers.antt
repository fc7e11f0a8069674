-- `book::begin` meets its contract: the two tests decide whether a count has room at the place.
use Rattle.std.proofs.Common.{sym, arith}
use Rattle.book.proofs.LayingOut.{no-begin, begin-there}
use Rattle.book.proofs.begin.Goals as goal
use Rattle.book.proofs.begin.Goals.{then-room-lt2-via-then-room-lt2, then-room-lt2-via-else-room-lt2+then-room-place}

pub returns-then-room-lt2 : goal.returns-then-room-lt2
returns-then-room-lt2 c =
    let a = c.args in
    elim c.then-room-lt2.branch [
      | then-room-lt2-via-then-room-lt2 w ↦ sym (no-begin a.place a.book.now (omega arith))
      | then-room-lt2-via-else-room-lt2+then-room-place w ↦ sym (no-begin a.place a.book.now (omega arith))
    ]

pub returns : goal.returns
returns c =
    let a = c.args in
    sym (begin-there a.place a.book.now (omega arith))
