-- `books::say_book` meets its contract: a refusal or a book, and either has the status of its answer.
use mathlib.Core.Path.{sym, ap, ◌∙◌, subst}
use Prim.Native.Nat.{ℕ}
use Rattle.meaning.specs.Returned.{Booked}
use Rattle.meaning.specs.Book.{book_made}
use Rattle.files.specs.Status.{Status, status_of, OrFailed}
use Rattle.files.proofs.Statuses.{refused-status}
use Rattle.books.proofs.say_book.Goals as goal

pub returns-in-Ok : goal.returns-in-Ok
returns-in-Ok c =
    let room = ap (λ (n : ℕ). status_of (book_made c.args.sheet.now c.args.plan.now n).answer.outcome) (sym c.room-book.ensures.long) in
    subst (λ (s : Status). OrFailed s c.say_made.result) (ap (λ (b : Booked). status_of b.outcome) c.in-Ok.ensures.answer ∙ room) c.say_made.ensures

pub returns-in-Err : goal.returns-in-Err
returns-in-Err c =
    let room = ap (λ (n : ℕ). status_of (book_made c.args.sheet.now c.args.plan.now n).answer.outcome) (sym c.room-book.ensures.long) in
    subst (λ (s : Status). OrFailed s c.say_refused.result)
    (refused-status c.in-Err.blame.refusal ∙ ap (λ (b : Booked). status_of b.outcome) c.in-Err.ensures.answer ∙ room) c.say_refused.ensures
