-- `tabled::say_head` meets its contract: the parts of the line are said one behind the other.
use Rattle.meaning.specs.Lister.{text}
use Rattle.lines.proofs.Saying.{say-more}
use Rattle.tabled.specs.Tabled.{head_line}
use Rattle.tabled.proofs.say_head.Goals as goal

pub returns : goal.returns
unfolding text head_line
returns c = say-more (say-more c.counted.ensures c.counted-2.ensures) c.words.ensures
