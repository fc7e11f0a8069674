-- `dealer::say_spread` meets its contract: its parts are said one behind the other.
use Rattle.meaning.specs.Lister.{text}
use Rattle.lines.proofs.Saying.{say-more}
use Rattle.dealer.specs.Sentences.{spread_text}
use Rattle.dealer.proofs.say_spread.Goals as goal

pub returns : goal.returns
unfolding text spread_text
returns c = say-more (say-more c.counted.ensures c.counted-2.ensures) c.words.ensures
