-- `wording::say_chosen` meets its contract: its parts are said one behind the other.
use Rattle.meaning.specs.Lister.{text}
use Rattle.lines.proofs.Saying.{say-more}
use Rattle.wording.specs.Worded.{choice_text}
use Rattle.wording.proofs.say_chosen.Goals as goal

pub returns : goal.returns
unfolding text choice_text
returns c =
    let first = say-more (say-more c.say_choice.ensures c.words.ensures) c.say_verdict.ensures in
    say-more (say-more first c.words-2.ensures) c.say_verdict-2.ensures
