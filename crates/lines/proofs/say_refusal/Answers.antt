-- `lines::say_refusal` meets its contract: the parts of the line are said one behind the other.
use mathlib.Core.Path.{ap}
use Rattle.meaning.specs.Lister.{text, said}
use Rattle.lines.proofs.Saying.{say-more, say_same}
use Rattle.lines.proofs.say_refusal.Goals as goal

pub returns : goal.returns
unfolding text
returns c =
    say-more (say-more (say_same (ap (said "refused") c.from-number.ensures) c.counted.ensures) c.counted-2.ensures) c.words.ensures
