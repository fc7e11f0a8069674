-- `reader::note_slots` meets its contract: a turn notes one slot more of the plan that the reader holds, and behind the last nothing is left.
use Rattle.std.proofs.Common.{ap, ◌∙◌, ◌+◌, ℕ, List}
use Rattle.meaning.specs.Plan.{senders_at}
use Rattle.slot.specs.Place.{slot_at}
use Rattle.reader.specs.Noted.{noted_slot}
use Rattle.reader.proofs.BySlot.{onward, at-end}
use Rattle.reader.proofs.note_slots.Goals as goal

pub loop-k-preserved : goal.loop-k-preserved
loop-k-preserved c =
    let a = c.args in
    let l = c.loop-k in
    let same = l.invariant.same_plan in
    record {
      same_plan = c.behind-r.ensures.same_plan ∙ same;
      stands =
          onward a.places.now a.plan.now a.many a.book.now l.k l.r.at l.book l.invariant.stands
          c.loop-k-test.true
          _
          (c.behind-r.ensures.place ∙ ap (λ (p : List ℕ). (slot_at p l.r.at).next) same)
          _
          (c.note_slot.ensures
          ∙ ap (λ (s : List ℕ). noted_slot a.places.now (l.k + 1) s l.book) (c.senders.ensures ∙ ap (λ (p : List ℕ). senders_at p l.r.at) same));
    }

pub returns : goal.returns
returns c =
    let a = c.args in
    let l = c.loop-k in
    at-end a.places.now a.plan.now a.many a.book.now l.k l.r.at l.book l.invariant.stands c.loop-k-test.false
