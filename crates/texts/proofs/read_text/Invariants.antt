-- `texts::read_text` reads within its piece, which keeps its length from one reading to the next.
use Rattle.std.proofs.Common.{◌≡◌, length}
use Rattle.texts.proofs.read_text.Given as goal

abbrev pub invariant-loop : goal.invariant-loop
invariant-loop l = 65536 ≡ length l.piece
