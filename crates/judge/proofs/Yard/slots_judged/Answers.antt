-- `judge::slots_judged` meets its contract: as far as slot k the definition has come to the same, the packets held together stay, and a refusal stays.
use mathlib.Core.Path.{refl, ap, ◌∙◌}
use native.Mathlib.Omega.{arith}
use Rattle.std.proofs.lemmas.Result.{err_from_is_err_and}
use Rattle.meaning.specs.Words.{by_node}
use Rattle.meaning.specs.Conflict.{entry}
use Rattle.meaning.specs.Judge.{Judging, names_at}
use Rattle.laws.proofs.Refused.{some-number}
use Rattle.judge.proofs.SlotBySlot.{going-starts, going_on, going-stops, going-ends}
use Rattle.judge.proofs.Yard.slots_judged.Goals as goal

pub loop-k-init : goal.loop-k-init
loop-k-init c =
    let a = c.args in
    going-starts a.self.mode a.self.probes (by_node a.self.parents.now) (entry a.self.table.now) a.plan.now a.many a.held.now c.requires.two c.requires.ready

pub loop-k-preserved : goal.loop-k-preserved
loop-k-preserved c = going_on _ _ _ _ _ c.loop-k.invariant c.loop-k-test.true _ _ _ c.in_ok-at.ensures.answer refl

pub returns-in_err-at : goal.returns-in_err-at
returns-in_err-at c =
    let a = c.args in
    let one = c.in_err-at.ensures in
    let end = going-stops _ _ _ _ _ c.loop-k.invariant c.loop-k-test.true _ _ _ one.answer (some-number c.in_err-at.field-0.0.refusal) in
    let e = err_from_is_err_and c.from_residual.result c.from_residual.ensures.1 in
    rw (e.1, e.2) (
      ap (λ (j : Judging). j.outcome) end,
      (
        ap (λ (j : Judging). j.held) end,
        one.names ∙ ap (λ (j : Judging). names_at a.self.mode a.self.probes (by_node a.self.parents.now) (entry a.self.table.now) a.plan.now j j.outcome.number) end,
      ),
    )

pub returns : goal.returns
returns c = going-ends _ _ _ _ _ c.loop-k.invariant (omega arith)
