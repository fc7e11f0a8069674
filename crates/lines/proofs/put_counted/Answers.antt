-- `lines::put_counted` meets its contract: where one of the three tests fails words and digits do not fit, and behind all they do.
use Prim.Native.Nat.{◌+◌, ◌≤◌}
use mathlib.Core.List.{◌++◌}
use lib.ListN.{length, length-append}
use native.Mathlib.Omega.{arith}
use Rattle.meaning.specs.Lister.{decimal}
use Rattle.lines.proofs.Putting.{put-short, put-fitting}
use Rattle.lines.proofs.put_counted.Goals as goal

pub returns-then-out-at : goal.returns-then-out-at
returns-then-out-at c =
    let a = c.args in
    put-short a.out.now a.at (a.words.now ++ decimal 5 a.n) (omega arith)

pub returns-then-room-words : goal.returns-then-room-words
returns-then-room-words c =
    let a = c.args in
    put-short a.out.now a.at (a.words.now ++ decimal 5 a.n) (omega (arith, length-append a.words.now (decimal 5 a.n)))

pub returns-then-room-words-2 : goal.returns-then-room-words-2
returns-then-room-words-2 c =
    let a = c.args in
    put-short a.out.now a.at (a.words.now ++ decimal 5 a.n)
    (omega (arith, c.digits.ensures.count, length-append a.words.now (decimal 5 a.n)))

pub put_said-requires : goal.put_said-requires
put_said-requires c = omega (arith, c.digits.ensures.count, length-append c.args.words.now (decimal 5 c.args.n))

pub returns : goal.returns
returns c =
    let a = c.args in
    let room : a.at + length (a.words.now ++ decimal 5 a.n) ≤ length a.out.now = omega (arith, c.digits.ensures.count, length-append a.words.now (decimal 5 a.n)) in
    put-fitting room c.put_said.ensures
