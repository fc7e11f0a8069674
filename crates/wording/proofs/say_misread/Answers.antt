-- `wording::say_misread` meets its contract: its parts are said one behind the other.
use Rattle.meaning.specs.Lister.{text}
use Rattle.lines.proofs.Saying.{say-more}
use Rattle.wording.specs.Worded.{misread_line}
use Rattle.wording.proofs.say_misread.Goals as goal

pub returns : goal.returns
unfolding text misread_line
returns c =
    let place = say-more (say-more c.counted.ensures c.words.ensures) c.long.ensures in
    say-more (say-more (say-more place c.words-2.ensures) c.say_of_any.ensures) c.words-3.ensures
