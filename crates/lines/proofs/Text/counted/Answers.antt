-- `lines::Text::counted` meets its contract: the number is said behind the words.
use mathlib.Core.Path.{ap}
use Rattle.meaning.specs.Lister.{decimal}
use Rattle.lines.proofs.Saying.{say-more, say_same}
use Rattle.lines.proofs.Text.counted.Goals as goal

pub returns : goal.returns
returns g c = say-more c.words.ensures (say_same (ap (decimal 5) c.from.ensures) c.number.ensures)
