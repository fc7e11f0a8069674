-- `wording::say_planned` meets its contract: a refusal has its line, and the parts of the other are said one behind the other.
use mathlib.Core.Path.{sym, ap}
use Rattle.meaning.specs.Lister.{text, said}
use Rattle.lines.proofs.Saying.{say-more, say_same}
use Rattle.wording.proofs.WhichLine.{planned-line, unplanned-line}
use Rattle.wording.proofs.say_planned.Goals as goal

pub returns-then-planned-ne0 : goal.returns-then-planned-ne0
returns-then-planned-ne0 c = say_same (sym (unplanned-line _ c.if-planned-ne0.true)) c.say_refused.ensures

pub returns : goal.returns
unfolding text
returns c =
    let bytes = say_same (ap (said " colours,") c.min-bytes.ensures) c.counted-3.ensures in
    say_same (sym (planned-line c.args.planned c.if-planned-ne0.false))
    (say-more (say-more (say-more c.counted.ensures c.counted-2.ensures) bytes) c.words.ensures)
