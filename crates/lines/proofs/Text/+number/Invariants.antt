-- `lines::Text::number` calls itself. The measure is how many digits may be said.
use Rattle.lines.proofs.Text.+number.Given as goal

abbrev pub decreases-number : goal.decreases-number
decreases-number g l = l.most
