-- `wording::say_of_any` meets its contract: what is said stands behind whom it is said of.
use Rattle.lines.proofs.Saying.{say-more, say_same}
use Rattle.wording.proofs.say_of_any.Goals as goal

pub returns : goal.returns
returns c =
    say-more (say_same c.any_senders.ensures c.words.ensures) (say_same c.words-2.ensures c.words-3.ensures)
