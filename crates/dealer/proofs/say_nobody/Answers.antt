-- `dealer::say_nobody` meets its contract: our plan is longer than the least, or not.
use Rattle.meaning.specs.Lister.{text}
use Rattle.lines.proofs.Saying.{say-more, say_same}
use Rattle.dealer.proofs.Spoken.{part-said, none-shorter}
use Rattle.dealer.proofs.say_nobody.Goals as goal

pub returns-then-least-ours : goal.returns-then-least-ours
unfolding text
returns-then-least-ours c =
    say_same (part-said c.args.least c.args.ours c.args.times c.if-least-ours.true) (say-more c.counted.ensures c.words.ensures)

pub returns : goal.returns
unfolding text
returns c = say_same (none-shorter c.args.least c.args.ours c.args.times c.if-least-ours.false) c.words-2.ensures
