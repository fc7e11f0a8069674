-- `judge::judgement_in` meets its contract: the sheet decides, then the count's two bytes, then the plan; an accepted sheet gives the slots what they count on.
use mathlib.Core.Path.{refl, sym, ap, ◌∙◌}
use Rattle.std.proofs.lemmas.Result.{err_from_is_err_and}
use Rattle.meaning.specs.declared.Outcome.{Outcome}
use Rattle.meaning.specs.Returned.{Tested}
use Rattle.meaning.specs.Answer.{is_accepted}
use Rattle.laws.proofs.Refused.{refused, some-number, passed}
use Rattle.judge.proofs.Judging.{ready_read, plan-read, names-read, sheet-decides, count-decides, plan-decides}
use Rattle.judge.proofs.Judging.{plan-passes, names-sheet, names-count, names-plan, exactly, exactly-refused}
use Rattle.judge.proofs.judgement_in.Goals as goal

pub returns-in_err-tree : goal.returns-in_err-tree
returns-in_err-tree c =
    let refusal = c.in_err-tree.field-0.0 in
    let read = c.in_err-tree.ensures in
    let is =
    names-sheet c.args.mode c.args.sheet.now c.args.plan.now _ (sheet-decides _ _ _ _ _ read (some-number refusal) refl)
    (ap (λ (o : Outcome). is_accepted o) (sym read) ∙ refused refusal) in
    let e = err_from_is_err_and c.from_residual.result c.from_residual.ensures.1 in
    record { answer = rw (e.1, e.2) is; exact = rw (e.1) (exactly-refused _ _ _ _ is (refused refusal)) }

-- behind the sheet
pub returns-then-plan-lt2 : goal.returns-then-plan-lt2
returns-then-plan-lt2 c =
    let ok = passed c.in_ok-tree.ensures.0 in
    let eleven = ap (λ (t : Tested). t.outcome) c.unnamed.ensures in
    let is = names-count _ _ _ ok _ (count-decides _ _ _ ok _ _ eleven c.if-plan-lt2.true refl) c.unnamed.ensures in
    record { answer = is; exact = exactly-refused _ _ _ _ is (refused c.unnamed.result.refusal) }

-- behind the count
pub plan_judged_by-requires-clause-ready : goal.plan_judged_by-requires-clause-ready
plan_judged_by-requires-clause-ready c =
    ready_read _ c.in_ok-tree.tree (passed c.in_ok-tree.ensures.0) c.in_ok-tree.ensures.1 _ _ c.first_held-first.ensures

pub returns-in_err-plan_judged_by : goal.returns-in_err-plan_judged_by
returns-in_err-plan_judged_by c =
    let s = c.args.sheet.now in
    let plan = c.args.plan.now in
    let ok = passed c.in_ok-tree.ensures.0 in
    let tree = c.in_ok-tree.ensures.1 in
    let first = c.first_held-first.ensures in
    let made = c.conflicts-table.ensures in
    let refusal = c.in_err-plan_judged_by.field-0.0.refusal in
    let tested = c.in_err-plan_judged_by.ensures in
    let answer = plan-read s _ ok tree _ _ first _ plan made _ tested.answer in
    let names = names-read s _ ok tree _ _ first _ plan made _ _ tested.names in
    let is = names-plan _ _ _ ok _ _ (plan-decides _ _ _ ok c.if-plan-lt2.false _ answer _ (some-number refusal) refl) names in
    let e = err_from_is_err_and c.from_residual-in_err-plan_judged_by.result c.from_residual-in_err-plan_judged_by.ensures.1 in
    record { answer = rw (e.1, e.2) is; exact = rw (e.1) (exactly-refused _ _ _ _ is (refused refusal)) }

pub returns : goal.returns
returns c =
    let s = c.args.sheet.now in
    let plan = c.args.plan.now in
    let ok = passed c.in_ok-tree.ensures.0 in
    let tree = c.in_ok-tree.ensures.1 in
    let first = c.first_held-first.ensures in
    let made = c.conflicts-table.ensures in
    let tested = c.in_ok-plan_judged_by.ensures in
    let answer = plan-read s _ ok tree _ _ first _ plan made _ tested.answer in
    let names = names-read s _ ok tree _ _ first _ plan made _ _ tested.names in
    let is = names-plan _ _ _ ok _ _ (plan-passes _ _ _ ok c.if-plan-lt2.false _ answer _ c.slot_count.ensures.answer refl) names in
    record { answer = is; exact = exactly _ _ _ _ is (λ _. c.slot_count.ensures.bytes) }
