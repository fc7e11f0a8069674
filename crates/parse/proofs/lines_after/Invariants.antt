-- `parse::lines_after` goes on as long as what is left of the piece answers the whole. The measure is how many bytes are left.
use Prim.Native.Nat.{◌-◌}
use lib.ListN.{length}
use Rattle.parse.specs.Piece.{lines_after}
use Rattle.parse.proofs.Whole.{Going}
use Rattle.parse.proofs.lines_after.Given as goal

abbrev pub invariant-loop-at : goal.invariant-loop-at
invariant-loop-at l = Going l.piece (lines_after (record { state = l.initial.so_far; table = l.initial.table }) l.piece) l.table l.so_far l.at

abbrev pub decreases-loop-at : goal.decreases-loop-at
decreases-loop-at l = length l.piece - l.at
