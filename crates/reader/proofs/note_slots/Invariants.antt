-- `reader::note_slots` meets its contract: behind k slots, what is left to note from where the reader stands is what was to be noted.
use Rattle.std.proofs.Common.{◌≡◌}
use Rattle.reader.proofs.BySlot.{Standing}
use Rattle.reader.proofs.note_slots.Given as goal

abbrev pub invariant-loop-k : goal.invariant-loop-k
invariant-loop-k l = record {
  same_plan : l.r.plan.now ≡ l.plan;
  stands : Standing l.places l.plan l.many l.initial.book l.k l.r.at l.book;
}
