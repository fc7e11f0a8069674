-- `dealer::say_at_least` meets its contract: its parts are said one behind the other.
use Rattle.meaning.specs.Lister.{text}
use Rattle.lines.proofs.Saying.{say-more}
use Rattle.dealer.proofs.say_at_least.Goals as goal

pub returns : goal.returns
unfolding text
returns c =
    let slots = say-more (say-more c.words.ensures c.counted.ensures) c.words-2.ensures in
    say-more (say-more slots c.say_timed.ensures) c.words-3.ensures
