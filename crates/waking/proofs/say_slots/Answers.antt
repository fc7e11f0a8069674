-- `waking::say_slots` meets its contract. The invariant: the first i slots are said.
use mathlib.Core.Path.{refl, ◌∙◌}
use Rattle.meaning.specs.Lister.{text}
use Rattle.waking.proofs.WakeWords.{slot_of, slots-put-start, slots-put-none, slots-put-next, slots-put-all}
use native.Mathlib.Omega.{arith}
use Rattle.waking.proofs.say_slots.Goals as goal

pub returns-then-many-eq0 : goal.returns-then-many-eq0
unfolding text
returns-then-many-eq0 c = record {
  same_reference = c.words.ensures.same_reference;
  said = slots-put-none (slot_of c.args.entry.now c.args.at) _ _ c.two_at-many.ensures c.if-many-eq0.true c.words.ensures.said;
}

pub loop-i-init : goal.loop-i-init
loop-i-init c = (refl, slots-put-start _ _ _)

pub loop-i-preserved : goal.loop-i-preserved
unfolding text
loop-i-preserved c =
    let turn = c.loop-i in (
      c.counted.ensures.same_reference ∙ turn.invariant.0,
      slots-put-next _ turn.i _ c.two_at-slot.ensures turn.invariant.1 c.counted.ensures.said,
    )

pub returns : goal.returns
returns c =
    let done = c.loop-i in
    record {
      same_reference = done.invariant.0;
      said = slots-put-all (slot_of c.args.entry.now c.args.at) _ _ c.two_at-many.ensures done.i c.if-many-eq0.false (omega arith) (omega arith) done.invariant.1;
    }
