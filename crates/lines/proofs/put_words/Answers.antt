-- `lines::put_words` meets its contract: where one of the two tests fails the bytes do not fit, and behind both they do.
use native.Mathlib.Omega.{arith}
use Rattle.lines.proofs.Putting.{put-short, put-fitting}
use Rattle.lines.proofs.put_words.Goals as goal

pub returns-then-out-at : goal.returns-then-out-at
returns-then-out-at c =
    let a = c.args in
    put-short a.out.now a.at a.bytes.now (omega arith)

pub returns-then-out-at-2 : goal.returns-then-out-at-2
returns-then-out-at-2 c =
    let a = c.args in
    put-short a.out.now a.at a.bytes.now (omega arith)

pub returns : goal.returns
returns c =
    let test = c in
    put-fitting (omega (arith, test.if-out-at-2.false, test.if-out-at.false)) c.put_text.ensures
