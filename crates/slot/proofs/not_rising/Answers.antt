-- `slot::not_rising` meets its contract: each sender behind one of the first i is above it.
use mathlib.Core.Path.{ap}
use Prim.Native.Nat.{ℕ, ◌+◌}
use borrow.Author.Tests.{le-leb, lt-leb}
use Rattle.slot.proofs.Looking.{looking-starts, looking-on, looking-stops, looking-past}
use borrow.Author.Rules.{rules}
use Rattle.slot.proofs.not_rising.Goals as goal

pub loop-i-init : goal.loop-i-init
loop-i-init c =
    looking-starts

pub returns-then-slot-i : goal.returns-then-slot-i
returns-then-slot-i c =
    let l = c.loop-i in
    ap (λ (k : ℕ). k + 1) (looking-stops l.invariant (search rules) (le-leb _ _ c.if-slot-i.true))

pub loop-i-preserved : goal.loop-i-preserved
loop-i-preserved c =
    looking-on c.loop-i.invariant (search rules) (lt-leb _ _ c.if-slot-i.false)

pub returns : goal.returns
returns c =
    ap (λ (k : ℕ). k + 1) (looking-past c.loop-i.invariant (search rules))
