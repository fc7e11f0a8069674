-- The measure of the cycle is the hops that are left.
use Rattle.walk.proofs.+climb.Given as goal

abbrev pub decreases-climb : goal.decreases-climb
decreases-climb l = l.left
