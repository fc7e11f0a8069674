-- `wording::say_written` meets its contract: a refusal has its line, and the parts of the other are said one behind the other.
use mathlib.Core.Path.{sym}
use Rattle.meaning.specs.Lister.{text}
use Rattle.lines.proofs.Saying.{say-more, say_same}
use Rattle.wording.proofs.WhichLine.{written-line, unwritten-line}
use Rattle.wording.proofs.say_written.Goals as goal

pub returns-then-outcome-ne0 : goal.returns-then-outcome-ne0
returns-then-outcome-ne0 c =
    say_same (sym (unwritten-line c.args.outcome c.args.bytes c.if-outcome-ne0.true)) c.say_refused.ensures

pub returns : goal.returns
unfolding text
returns c =
    say_same (sym (written-line c.args.outcome c.args.bytes c.if-outcome-ne0.false))
    (say-more (say-more c.words.ensures c.long.ensures) c.words-2.ensures)
