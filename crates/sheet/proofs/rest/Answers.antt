-- `sheet::rest` meets its contract: the two laws of the rest of a sheet.
use Rattle.sheet.proofs.Parts.{rest-within, rest-past}
use Rattle.sheet.proofs.rest.Goals as goal

pub returns-then-at-end : goal.returns-then-at-end
returns-then-at-end c =
    rest-within c.args.s.now c.args.at

pub returns-else-at-end : goal.returns-else-at-end
returns-else-at-end c =
    rest-past c.args.s.now c.args.at c.if-at-end.false
