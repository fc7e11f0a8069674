-- `parse::mark` meets its contract: the two tests are those of a mark.
use mathlib.Core.Path.{sym}
use mathlib.Core.Logic.{inl, inr}
use Rattle.conflict.proofs.Tables.{marked-in, marked-out}
use Rattle.parse.proofs.mark.Goals as goal

pub returns-then-y-lt65 : goal.returns-then-y-lt65
returns-then-y-lt65 c =
    let start = c.args in
    sym (marked-in _ start.table.now start.x start.y c.if-x-lt65.true c.if-y-lt65.true)

pub returns-else-y-lt65 : goal.returns-else-y-lt65
returns-else-y-lt65 c =
    let start = c.args in
    sym (marked-out _ start.table.now start.x start.y (inr c.if-y-lt65.false))

pub returns-else-x-lt65 : goal.returns-else-x-lt65
returns-else-x-lt65 c =
    let start = c.args in
    sym (marked-out _ start.table.now start.x start.y (inl c.if-x-lt65.false))
