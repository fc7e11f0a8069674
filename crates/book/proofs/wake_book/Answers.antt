-- `book::wake_book` meets its contract: the judge's refusal, then 22, then the book, each by its law; the sheet that was read is the one that the judge accepted.
use mathlib.Core.Path.{refl, ap}
use Rattle.std.proofs.lemmas.Result.{err_from_is_err_and}
use Rattle.meaning.specs.declared.Blame.{Blame}
use Rattle.meaning.specs.Results.{outcome_of}
use Rattle.laws.proofs.Refused.{some-number, not-refused}
use Rattle.book.proofs.BookAnswered.{judge-refuses, ok, few, no_room, book-written}
use Rattle.book.specs.Layout.{all_sends, all_hears}
use Rattle.book.proofs.wake_book.Goals as goal

pub returns-in_err-slots : goal.returns-in_err-slots
returns-in_err-slots c =
    let a = c.args in
    let both = judge-refuses a.sheet.now a.plan.now _ c.in_err-slots.ensures.answer _ a.book.now (some-number c.in_err-slots.field-0.0.refusal) refl in
    let e = err_from_is_err_and c.from_residual.result c.from_residual.ensures.1 in
    record { answer = rw (e.1, e.2) both.0; buffer = both.1 }

-- the sheet of a plan that passes is accepted
pub returns-in_err-tree : goal.returns-in_err-tree
returns-in_err-tree c =
    let a = c.args in
    let j = c.in_ok-slots.ensures in
    absurd (not-refused c.in_err-tree.field-0.0 c.in_err-tree.ensures (ok a.sheet.now a.plan.now _ j.answer (λ passes. j.exact.0 passes) refl))

pub laid_out-layout-requires : goal.laid_out-layout-requires
laid_out-layout-requires c =
    let a = c.args in
    let j = c.in_ok-slots.ensures in
    few a.sheet.now a.plan.now _ j.answer (λ passes. j.exact.0 passes) refl c.in_ok-tree.tree c.in_ok-tree.ensures.1

pub returns-then-book-bytes : goal.returns-then-book-bytes
returns-then-book-bytes c =
    let a = c.args in
    let j = c.in_ok-slots.ensures in
    let layout = c.laid_out-layout in
    let both =
    no_room a.sheet.now a.plan.now _ j.answer (λ passes. j.exact.0 passes) refl c.in_ok-tree.tree c.in_ok-tree.ensures.1 layout.result.bytes
    layout.ensures.bytes _ a.book.now c.if-book-bytes.true
    (ap (λ (b : Blame). record { outcome = outcome_of b.refusal; names = b.names; bytes = 0 }) c.from.ensures) in
    record { answer = both.0; buffer = both.1 }

pub begin_all-requires : goal.begin_all-requires
begin_all-requires c =
    let a = c.args in
    let j = c.in_ok-slots.ensures in
    few a.sheet.now a.plan.now _ j.answer (λ passes. j.exact.0 passes) refl c.in_ok-tree.tree c.in_ok-tree.ensures.1

pub returns : goal.returns
returns c =
    let a = c.args in
    let j = c.in_ok-slots.ensures in
    let layout = c.laid_out-layout in
    let senders = c.by_sender-at in
    let both =
    book-written a.sheet.now a.plan.now _ j.answer (λ passes. j.exact.0 passes) refl c.in_ok-tree.tree c.in_ok-tree.ensures.1 layout.result.bytes
    layout.ensures.bytes a.book.now c.if-book-bytes.false (all_sends layout.result.lists) (all_hears layout.result.lists) senders.result _ _ layout.ensures.lists.0
    layout.ensures.lists.1 c.begin_all.ensures senders.ensures.own senders.ensures.parents c.note_slots.ensures in
    record { answer = both.0; buffer = both.1 }
