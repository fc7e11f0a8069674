-- `wording::say_verdict` meets its contract: a refusal has its line, and the parts of the other are said one behind the other.
use mathlib.Core.Path.{sym}
use Rattle.meaning.specs.Lister.{text}
use Rattle.lines.proofs.Saying.{say-more, say_same}
use Rattle.wording.proofs.WhichLine.{passed-line, failed-line}
use Rattle.wording.proofs.say_verdict.Goals as goal

pub returns-then-verdict-ne0 : goal.returns-then-verdict-ne0
returns-then-verdict-ne0 c = say_same (sym (failed-line c.args.mode c.args.judgement c.if-verdict-ne0.true)) c.say_blamed.ensures

pub returns : goal.returns
unfolding text
returns c = say_same (sym (passed-line c.args.mode c.args.judgement c.if-verdict-ne0.false)) (say-more c.counted.ensures c.words.ensures)
