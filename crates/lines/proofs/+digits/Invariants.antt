-- `lines::digits` calls itself. The measure is how many digits may be said.
use Rattle.lines.proofs.+digits.Given as goal

abbrev pub decreases-digits : goal.decreases-digits
decreases-digits l = l.most
