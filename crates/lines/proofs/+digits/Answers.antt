-- `lines::digits` meets its contract: each answer is a clause of `decimal`.
use mathlib.Core.Path.{sym, ap}
use native.Mathlib.Omega.{arith}
use lib.ListN.{length}
use Rattle.lines.proofs.Decimal.{decimal-none, decimal-last, length_more}
use Rattle.lines.proofs.+digits.Goals as goal

pub returns-then-most-eq0-clause-count : goal.returns-then-most-eq0-clause-count
returns-then-most-eq0-clause-count t c = sym (ap length (decimal-none _ _ c.if-most-eq0.true))

pub returns-then-n-lt10-clause-count : goal.returns-then-n-lt10-clause-count
returns-then-n-lt10-clause-count t c = sym (ap length (decimal-last _ _ c.if-most-eq0.false c.if-n-lt10.true))

pub returns-clause-count : goal.returns-clause-count
returns-clause-count t c =
    let more = length_more _ _ c.if-most-eq0.false c.if-n-lt10.false in
    omega (arith, more, c.digits.ensures.count)
