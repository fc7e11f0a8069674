-- `wording::say_named_senders` meets its contract: a number that is not said of senders has no subject; else the slot is said behind the senders.
use mathlib.Core.Path.{sym, ◌∙◌}
use Rattle.meaning.specs.Lister.{text}
use Rattle.lines.proofs.Saying.{say-more, say_same}
use Rattle.wording.proofs.WhichLine.{these, nobody}
use Rattle.wording.proofs.say_named_senders.Goals as goal

pub returns-then-not-is_of_senders : goal.returns-then-not-is_of_senders
returns-then-not-is_of_senders c =
    say_same (nobody _ _ (sym c.is_of_senders.ensures ∙ c.if-not-is_of_senders.true)) c.words.ensures

pub returns : goal.returns
unfolding text
returns c =
    say_same (these _ _ (sym c.is_of_senders.ensures ∙ c.if-not-is_of_senders.false)) (say-more c.say_the_senders.ensures c.counted.ensures)
