-- `sheet::probes_test` meets its contract: so far no test has given a number.
use mathlib.Core.Path.{◌≡◌}
use Rattle.meaning.specs.Answer.{accepted, in_order, probe_test}
use Rattle.sheet.proofs.probes_test.Given as goal

abbrev pub invariant-loop-k : goal.invariant-loop-k
invariant-loop-k l = in_order l.k (probe_test l.records l.p) ≡ accepted
