-- `dealer::say_ours` meets its contract: its parts are said one behind the other.
use Rattle.meaning.specs.Lister.{text}
use Rattle.lines.proofs.Saying.{say-more}
use Rattle.dealer.proofs.say_ours.Goals as goal

pub returns : goal.returns
unfolding text
returns c = say-more (say-more c.counted.ensures c.say_timed.ensures) c.words.ensures
