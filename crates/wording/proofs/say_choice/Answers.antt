-- `wording::say_choice` meets its contract: the words of each arm are those of its choice.
use mathlib.Core.Path.{sym, ap}
use Rattle.meaning.specs.Lister.{text}
use Rattle.lines.proofs.Saying.{say_same}
use Rattle.wording.specs.Worded.{choice_line}
use Rattle.wording.proofs.say_choice.Goals as goal

pub returns-in-First : goal.returns-in-First
unfolding text
returns-in-First c = say_same (ap choice_line (sym c.in-First.is)) c.words.ensures

pub returns-in-Second : goal.returns-in-Second
unfolding text
returns-in-Second c = say_same (ap choice_line (sym c.in-Second.is)) c.words-in-Second.ensures

pub returns-in-Neither : goal.returns-in-Neither
unfolding text
returns-in-Neither c = say_same (ap choice_line (sym c.in-Neither.is)) c.words-in-Neither.ensures
