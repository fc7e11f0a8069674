-- `dealer::say_timed` meets its contract: nothing, or minutes and seconds one behind the other.
use mathlib.Core.Path.{ap, ◌∙◌}
use native.Mathlib.Omega.{arith}
use Rattle.meaning.specs.Lister.{text}
use Rattle.lines.proofs.Saying.{say-more, say_same}
use Rattle.dealer.specs.Sentences.{minutes}
use Rattle.dealer.proofs.Spoken.{time-said, time-unsaid}
use Rattle.dealer.proofs.say_timed.Goals as goal

pub returns-then-ms-eq0 : goal.returns-then-ms-eq0
returns-then-ms-eq0 c = say_same (time-unsaid c.args.slots c.args.ms c.args.rounding c.if-ms-eq0.true) c.words.ensures

pub overflow_cast-minutes : goal.overflow_cast-minutes
overflow_cast-minutes c = omega (arith, c.seconds-all.ensures.few)

pub returns : goal.returns
unfolding text
returns c =
    say_same (ap minutes c.seconds-all.ensures.count ∙ time-said c.args.slots c.args.ms c.args.rounding c.if-ms-eq0.false)
    (say-more (say-more c.counted.ensures c.counted-2.ensures) c.words-2.ensures)
