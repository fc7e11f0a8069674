-- `slot::hop` meets its contract: where a test fails nothing moves, and once all hold the code is the meaning's hop.
use Prim.Native.Nat.{◌-◌}
use lib.ListN.{get_or}
use Rattle.slot.proofs.Within.{set-less, no_node, no-parent, no_packet, no_room, hops}
use native.Mathlib.Omega.{arith}
use Rattle.slot.proofs.hop.Goals as goal

pub returns-then-from-ge65 : goal.returns-then-from-ge65
returns-then-from-ge65 c =
    no_node _ _ _ c.if-from-ge65.true

pub returns-then-parent-ge65 : goal.returns-then-parent-ge65
returns-then-parent-ge65 c =
    no-parent _ _ _ c.if-from-ge65.false c.if-parent-ge65.true

pub returns-then-held-from-eq0 : goal.returns-then-held-from-eq0
returns-then-held-from-eq0 c =
    no_packet _ _ _ c.if-from-ge65.false c.if-parent-ge65.false (omega (arith, c.if-held-from-eq0.true))

pub returns-then-held-up-ge65535 : goal.returns-then-held-up-ge65535
returns-then-held-up-ge65535 c =
    no_room _ _ _ c.if-from-ge65.false c.if-parent-ge65.false
    (omega (arith, c.if-held-from-eq0.false)) c.if-held-up-ge65535.true

pub overflow_add-held : goal.overflow_add-held
overflow_add-held c =
    let a = c.args in
    let v = a.sender.0 in
    let held = a.held.now in
    omega (arith, set-less held v (get_or a.parents.now v 0) (get_or held v 0 - 1) (omega arith))

pub returns : goal.returns
returns c =
    hops _ _ _ c.if-from-ge65.false c.if-parent-ge65.false
    (omega (arith, c.if-held-from-eq0.false)) c.if-held-up-ge65535.false
