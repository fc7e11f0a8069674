-- `lines::say_numbers` meets its contract: the parts of the line are said one behind the other.
use mathlib.Core.Path.{ap}
use Rattle.meaning.specs.Lister.{text, said, numbers_line}
use Rattle.lines.proofs.Saying.{say-more, say_same}
use Rattle.lines.proofs.say_numbers.Goals as goal

pub returns : goal.returns
unfolding text numbers_line
returns c =
    let first = say_same (ap (said "colours") c.from-colours.ensures) c.counted.ensures in
    let four = say-more (say-more (say-more first c.counted-2.ensures) c.counted-3.ensures) c.counted-4.ensures in
    say-more (say-more four c.counted-5.ensures) c.words.ensures
