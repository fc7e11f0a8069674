-- `slot::any_outside` meets its contract: none of the first k probes holds a packet.
use mathlib.Core.Path.{sym}
use Prim.Native.Nat.{◌+◌}
use borrow.Author.Tests.{lt-ltb, le-ltb}
use lib.ListN.{get_or}
use Rattle.slot.proofs.Looking.{looking-starts, looking-on, looking-found, looking-ends}
use native.Mathlib.Omega.{arith}
use borrow.Author.Rules.{rules}
use Rattle.slot.proofs.any_outside.Goals as goal

pub loop-k-init : goal.loop-k-init
loop-k-init c =
    looking-starts

pub returns-then-held-v-ne0 : goal.returns-then-held-v-ne0
returns-then-held-v-ne0 c =
    let a = c.args in
    let k = c.loop-k.k in
    looking-found _ _ k (search rules) (lt-ltb 0 (get_or a.held.now (k + 2) 0) (omega (arith, c.if-held-v-ne0.true)))

pub loop-k-preserved : goal.loop-k-preserved
loop-k-preserved c =
    let a = c.args in
    let l = c.loop-k in
    looking-on l.invariant (search rules) (le-ltb 0 (get_or a.held.now (l.k + 2) 0) (omega (arith, c.if-held-v-ne0.false)))

pub returns : goal.returns
returns c =
    sym (looking-ends c.loop-k.invariant (search rules))
