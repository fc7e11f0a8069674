-- `tabled::degree` meets its contract. The invariant: those before place k are counted.
use mathlib.Core.Path.{◌≡◌, refl, sym, ap, ap₂, ◌∙◌}
use Prim.Native.Nat.{ℕ, ◌+◌}
use Rattle.meaning.specs.Words.{sum, count}
use Rattle.laws.proofs.Turns.{sum_one}
use Rattle.tabled.specs.Tabled.{joins, degree_in}
use Rattle.graph.proofs.Flags.{flag}
use native.Mathlib.Omega.{arith}
use Rattle.tabled.proofs.degree.Goals as goal

pub loop-k-init : goal.loop-k-init
unfolding sum
loop-k-init c = (omega arith, refl)

pub loop-k-preserved : goal.loop-k-preserved
loop-k-preserved c =
    let so = c.loop-k in
    let one = flag (joins c.args.row.now so.k) in
    (omega (arith, c.from-n.ensures, one.1), ap₂ ◌+◌ so.invariant.1 (c.from-n.ensures ∙ one.0) ∙ sym (sum_one _ _))

pub returns : goal.returns
unfolding degree_in
returns c =
    let all : c.loop-k.k ≡ 63 = omega arith in
    c.loop-k.invariant.1 ∙ ap (λ (k : ℕ). count k (joins c.args.row.now)) all
