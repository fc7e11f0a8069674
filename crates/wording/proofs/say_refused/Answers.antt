-- `wording::say_refused` meets its contract: its parts are said one behind the other.
use Rattle.meaning.specs.Lister.{text}
use Rattle.lines.proofs.Saying.{say-more}
use Rattle.wording.specs.Worded.{refused_line}
use Rattle.wording.proofs.say_refused.Goals as goal

pub returns : goal.returns
unfolding text refused_line
returns c = say-more (say-more c.say_refusal.ensures c.say_of_any.ensures) c.words.ensures
