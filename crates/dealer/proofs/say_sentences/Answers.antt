-- `dealer::say_sentences` meets its contract: the last sentence stands behind the others.
use Rattle.meaning.specs.Lister.{text}
use Rattle.lines.proofs.Saying.{say-more}
use Rattle.dealer.specs.Sentences.{least_said, sentences}
use Rattle.dealer.proofs.say_sentences.Goals as goal

pub returns : goal.returns
unfolding text least_said sentences
returns c = say-more c.say_plans.ensures c.say_nobody.ensures
