-- `gateway::word` meets its contract: bit k stands behind the bits before it, and so there is room for it.
use mathlib.Core.Path.{◌≡◌, refl}
use mathlib.Core.Bool.{false}
use Prim.Native.Nat.{◌+◌}
use lib.ListN.{get_or}
use Rattle.meaning.specs.Words.{sum}
use Rattle.gateway.specs.Rows.{word}
use Rattle.gateway.proofs.Bits.{bits-next, next_fits}
use native.Mathlib.Omega.{arith}
use Rattle.gateway.proofs.word.Goals as goal

pub loop-k-init : goal.loop-k-init
unfolding sum
loop-k-init c = refl

pub overflow_add-w : goal.overflow_add-w
overflow_add-w c =
    record { fits = next_fits c.loop-k.k (λ j. get_or c.args.row.now (j + 1) false) _ _ c.loop-k.invariant c.bit_if-w.ensures (omega arith) }

pub loop-k-preserved : goal.loop-k-preserved
loop-k-preserved c = (bits-next c.loop-k.k (λ j. get_or c.args.row.now (j + 1) false) _ _ c.loop-k.invariant c.bit_if-w.ensures)

pub returns : goal.returns
unfolding word
returns c =
    let full : c.loop-k.k ≡ 64 = omega arith in
    rw full at c.loop-k.invariant
