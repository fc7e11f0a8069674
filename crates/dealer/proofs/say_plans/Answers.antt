-- `dealer::say_plans` meets its contract: one sentence behind the other.
use Rattle.meaning.specs.Lister.{text}
use Rattle.lines.proofs.Saying.{say-more}
use Rattle.dealer.specs.Sentences.{ours_said, most_said}
use Rattle.dealer.proofs.say_plans.Goals as goal

pub returns : goal.returns
unfolding text ours_said most_said
returns c = say-more (say-more c.say_at_least.ensures c.say_ours.ensures) c.say_ours-2.ensures
