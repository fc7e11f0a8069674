-- `slot::two_conflict` meets its contract: the outer loop has looked at each pair whose first is before i, the inner one at those of i whose second is
-- before j; the label is left with the two found.
use mathlib.Core.Path.{ap₂, ◌∙◌}
use mathlib.Core.Bool.{◌&&◌}
use Prim.Native.Nat.{ℕ}
use borrow.Author.Tests.{lt-ltb}
use Rattle.slot.proofs.Looking.{looking-starts, looking-on, looking-ends, looking-above}
use Rattle.slot.proofs.Pairs.{two-stop, two_none}
use native.Mathlib.Omega.{arith}
use borrow.Author.Rules.{rules}
use Rattle.slot.proofs.two_conflict.Goals as goal

pub pairs-init : goal.pairs-init
pairs-init c =
    (search rules, search rules, looking-starts)

pub overflow_cast-x : goal.overflow_cast-x
overflow_cast-x c =
    omega (arith, c.type_inv.slot c.pairs.i)

pub loop-j-init : goal.loop-j-init
loop-j-init c =
    let l = c.pairs in
    (l.invariant.0, l.invariant.1, search rules, looking-above _ _ _ (search rules))

pub overflow_cast-y : goal.overflow_cast-y
overflow_cast-y c =
    omega (arith, c.type_inv.slot c.loop-j.j)

pub offset_bounds-table-x : goal.offset_bounds-table-x
offset_bounds-table-x c =
    omega (arith, c.requires c.pairs.i (search rules))

pub bounds-table-x : goal.bounds-table-x
bounds-table-x c =
    c.requires c.pairs.i (search rules)

pub bounds-table-y : goal.bounds-table-y
bounds-table-y c =
    c.requires c.loop-j.j c.loop-j-test.true

pub loop-j-preserved : goal.loop-j-preserved
loop-j-preserved c =
    let l = c.loop-j in (
      l.invariant.0,
      l.invariant.1,
      search rules,
      looking-on l.invariant.3 c.loop-j-test.true (ap₂ ◌&&◌ (lt-ltb _ _ l.invariant.2) c.if-table-x.false),
    )

pub pairs-preserved : goal.pairs-preserved
pairs-preserved c =
    let l = c.loop-j in
    (l.invariant.0, l.invariant.1, looking-on c.pairs.invariant.2 (search rules) (looking-ends l.invariant.3 c.loop-j-test.false))

pub returns-after-pairs : goal.returns-after-pairs
returns-after-pairs c =
    let l = c.pairs in
    ap₂ (λ (x y : ℕ). record { first = x; second = y }) l.invariant.0 l.invariant.1 ∙ two_none _ _ _ l.invariant.2 c.pairs-test.false

pub returns-then-table-x : goal.returns-then-table-x
returns-then-table-x c =
    let l = c.loop-j in
    let outer = c.pairs in
    two-stop _ _ _ _ outer.invariant.2 l.invariant.3 (search rules) c.loop-j-test.true
    (ap₂ ◌&&◌ (lt-ltb _ _ l.invariant.2) c.if-table-x.true)
