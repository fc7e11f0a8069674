-- `wording::say_refusal` meets its contract: its parts are said one behind the other.
use Rattle.meaning.specs.Lister.{text}
use Rattle.lines.proofs.Saying.{say-more}
use Rattle.wording.proofs.say_refusal.Goals as goal

pub returns : goal.returns
unfolding text
returns c = say-more (say-more c.counted.ensures c.counted-2.ensures) c.words.ensures
