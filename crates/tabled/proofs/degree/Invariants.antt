-- `tabled::degree` meets its contract. The invariant: those before place k are counted.
use mathlib.Core.Path.{◌≡◌}
use Prim.Native.Nat.{◌≤◌}
use Rattle.meaning.specs.Words.{count}
use Rattle.tabled.specs.Tabled.{joins}
use Rattle.tabled.proofs.degree.Given as goal

abbrev pub invariant-loop-k : goal.invariant-loop-k
invariant-loop-k l = (l.n ≤ l.k) × (l.n ≡ count l.k (joins l.row))
