-- `sheet::pairs_test` meets its contract: so far no test has given a number.
use mathlib.Core.Path.{◌≡◌}
use Rattle.meaning.specs.Answer.{accepted, in_order, pair_test}
use Rattle.sheet.proofs.pairs_test.Given as goal

abbrev pub invariant-loop-k : goal.invariant-loop-k
invariant-loop-k l = in_order l.k (pair_test l.records l.p) ≡ accepted
