-- `lines::Text::number` meets its contract: each answer is a clause of `decimal`.
use mathlib.Core.Path.{sym}
use Rattle.lines.proofs.Decimal.{decimal-none, decimal-last, decimal-more}
use Rattle.lines.proofs.Saying.{say-more, say_same}
use Rattle.lines.proofs.Text.+number.Goals as goal

pub returns-then-most-eq0 : goal.returns-then-most-eq0
returns-then-most-eq0 g t c = say_same (sym (decimal-none _ _ c.if-most-eq0.true)) c.words.ensures

pub returns-then-n-lt10 : goal.returns-then-n-lt10
returns-then-n-lt10 g t c = say_same (sym (decimal-last _ _ c.if-most-eq0.false c.if-n-lt10.true)) c.words-then-n-lt10.ensures

pub returns : goal.returns
returns g t c = say_same (sym (decimal-more _ _ c.if-most-eq0.false c.if-n-lt10.false)) (say-more c.number.ensures c.words-2.ensures)
