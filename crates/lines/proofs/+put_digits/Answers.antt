-- `lines::put_digits` meets its contract: each answer is a clause of `decimal`.
use mathlib.Core.Path.{ap}
use native.Mathlib.Omega.{arith}
use lib.ListN.{length}
use Rattle.lines.proofs.Decimal.{decimal-none, decimal-last, decimal-more, length_more}
use Rattle.lines.proofs.Putting.{put-none, put_byte, put_last, put-long}
use Rattle.lines.proofs.+put_digits.Goals as goal

pub returns-then-most-eq0 : goal.returns-then-most-eq0
returns-then-most-eq0 t c = put-none _ _ _ (decimal-none _ _ c.if-most-eq0.true)

pub bounds-out-at : goal.bounds-out-at
bounds-out-at t c =
    let one = ap length (decimal-last _ _ c.if-most-eq0.false c.if-n-lt10.true) in
    omega (arith, one, c.requires)

pub returns-then-n-lt10 : goal.returns-then-n-lt10
returns-then-n-lt10 t c = put_byte _ _ _ _ (decimal-last _ _ c.if-most-eq0.false c.if-n-lt10.true)

pub put_digits-last-requires : goal.put_digits-last-requires
put_digits-last-requires t c =
    let more = length_more _ _ c.if-most-eq0.false c.if-n-lt10.false in
    (omega (arith, c.decreases), omega (arith, more, c.requires))

pub bounds-out-last : goal.bounds-out-last
bounds-out-last t c =
    let more = length_more _ _ c.if-most-eq0.false c.if-n-lt10.false in
    let put = c.put_digits-last.ensures in
    omega (arith, more, put.ends, put-long put, c.requires)

pub overflow_add-result-2 : goal.overflow_add-result-2
overflow_add-result-2 t c =
    let more = length_more _ _ c.if-most-eq0.false c.if-n-lt10.false in
    omega (arith, more, c.put_digits-last.ensures.ends, c.requires)

pub returns : goal.returns
returns t c =
    put_last _ _ _ _ _ _ _ c.put_digits-last.ensures (decimal-more _ _ c.if-most-eq0.false c.if-n-lt10.false)
