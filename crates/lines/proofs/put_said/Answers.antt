-- `lines::put_said` meets its contract: the number is put behind the words.
use lib.ListN.{length-append}
use Rattle.meaning.specs.Lister.{decimal}
use Rattle.lines.proofs.Putting.{put-more, put-long}
use native.Mathlib.Omega.{arith}
use Rattle.lines.proofs.put_said.Goals as goal

pub put_text-next-requires : goal.put_text-next-requires
put_text-next-requires c =
    let a = c.args in
    omega (arith, c.requires, length-append a.words.now (decimal 5 a.n))

pub put_number-requires : goal.put_number-requires
put_number-requires c =
    let start = c in
    let put = c.put_text-next.ensures in
    omega (arith, start.requires, length-append start.args.words.now (decimal 5 start.args.n), put.ends, put-long put)

pub returns : goal.returns
returns c =
    put-more c.put_text-next.ensures c.put_number.ensures
