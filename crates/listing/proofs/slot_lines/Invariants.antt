-- `listing::slot_lines` meets its contract. The invariant: the lines of the first k slots stand at the start of the buffer, and those that are left
-- make the whole with them.
use Rattle.listing.specs.Listed.{Listing}
use Rattle.listing.proofs.slot_lines.Given as goal

abbrev pub invariant-loop-k : goal.invariant-loop-k
invariant-loop-k l = Listing l.plan l.slots l.initial.out l.out l.place l.at l.k
