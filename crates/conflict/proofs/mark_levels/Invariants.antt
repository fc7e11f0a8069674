-- `conflict::mark_levels` meets its contract. The invariant: the marks of the probes passed are made.
use Rattle.std.proofs.Common.{◌≡◌, false, get_or}
use Rattle.meaning.specs.Words.{by_node}
use Rattle.conflict.specs.Marks.{levels_marked}
use Rattle.conflict.proofs.mark_levels.Given as goal

abbrev pub invariant-loop-k : goal.invariant-loop-k
invariant-loop-k l = l.t ≡ levels_marked l.k (by_node l.levels) (λ y. get_or l.row y false) l.a.0 l.initial.t
