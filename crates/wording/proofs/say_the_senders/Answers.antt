-- `wording::say_the_senders` meets its contract: one sender, or two one behind the other.
use Rattle.meaning.specs.Lister.{text}
use Rattle.lines.proofs.Saying.{say-more, say_same}
use Rattle.wording.proofs.WhichLine.{both-of, one-of}
use Rattle.wording.proofs.say_the_senders.Goals as goal

pub returns-then-number-ne15 : goal.returns-then-number-ne15
unfolding text
returns-then-number-ne15 c = say_same (one-of _ _ c.if-number-ne15.true) c.counted.ensures

pub returns : goal.returns
unfolding text
returns c = say_same (both-of _ _ c.if-number-ne15.false) (say-more c.counted-2.ensures c.counted-3.ensures)
