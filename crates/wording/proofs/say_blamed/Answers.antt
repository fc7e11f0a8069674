-- `wording::say_blamed` meets its contract: its parts are said one behind the other.
use Rattle.meaning.specs.Lister.{text}
use Rattle.lines.proofs.Saying.{say-more, say_same}
use Rattle.wording.specs.Worded.{blamed_line}
use Rattle.wording.proofs.say_blamed.Goals as goal

pub returns : goal.returns
unfolding text blamed_line
returns c =
    say-more
    (say-more c.say_refusal.ensures (say-more c.say_named_senders.ensures (say_same c.words_in.ensures c.words.ensures)))
    c.words-2.ensures
