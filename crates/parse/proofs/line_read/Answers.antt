-- `parse::line_read` meets its contract: behind a faulty line nothing changes, a fault is kept with its line, and a line without one is taken.
use mathlib.Core.Path.{refl, sym, ◌∙◌}
use Rattle.laws.proofs.Refused.{some-number}
use Rattle.parse.proofs.LineTaken.{stays, turns-faulty, goes_on, few-said}
use Rattle.parse.proofs.line_read.Goals as goal

pub returns-then-read-ne0 : goal.returns-then-read-ne0
returns-then-read-ne0 c =
    let all = stays _ _ _ c.if-read-ne0.true in
    record { state = all.0; table = all.1 }

pub returns-in-Some : goal.returns-in-Some
returns-in-Some c =
    let number = c.number.ensures in
    let all =
    turns-faulty _ _ _ _ c.line_of-said.ensures _ (number ∙ c.in-Some.ensures) c.if-read-ne0.false _ c.faulty.ensures
    (λ none. some-number (record { fault = c.in-Some.fault; place = 0 }) (sym number ∙ none))
    in
    record { state = all.0; table = all.1 }

pub taken-requires : goal.taken-requires
taken-requires c = record { few = few-said _ _ _ (sym c.in_default.ensures) }

pub returns : goal.returns
returns c =
    let all =
    goes_on _ _ _ _ c.line_of-said.ensures 0 c.in_default.ensures c.if-read-ne0.false _ _ c.taken.ensures c.table_after.ensures refl
    in
    record { state = all.0; table = all.1 }
