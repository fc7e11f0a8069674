-- `dealer::say_merged` meets its contract: the line ends behind the sentences.
use Rattle.meaning.specs.Lister.{text}
use Rattle.lines.proofs.Saying.{say-more}
use Rattle.dealer.specs.Sentences.{merged_said, merged_sentences}
use Rattle.dealer.proofs.say_merged.Goals as goal

pub returns : goal.returns
unfolding text merged_said merged_sentences
returns c = say-more c.say_plans.ensures c.words.ensures
