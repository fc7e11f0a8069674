-- `slot::no_packet` meets its contract: each sender before i holds a packet.
use mathlib.Core.Path.{ap}
use mathlib.Core.Bool.{not}
use borrow.Author.Tests.{lt-ltb, le-ltb}
use lib.ListN.{get_or}
use Rattle.slot.proofs.Looking.{looking-starts, looking-on, looking-stops, looking-past}
use native.Mathlib.Omega.{arith}
use Rattle.slot.proofs.no_packet.Goals as goal

pub loop-i-init : goal.loop-i-init
loop-i-init c =
    looking-starts

pub overflow_cast-v : goal.overflow_cast-v
overflow_cast-v c =
    omega (arith, c.type_inv.slot c.loop-i.i)

pub offset_bounds-held-v : goal.offset_bounds-held-v
offset_bounds-held-v c =
    omega (arith, c.requires c.loop-i.i c.loop-i-test.true)

pub bounds-held-v : goal.bounds-held-v
bounds-held-v c =
    omega (arith, c.requires c.loop-i.i c.loop-i-test.true)

pub returns-then-held-v-eq0 : goal.returns-then-held-v-eq0
returns-then-held-v-eq0 c =
    let a = c.args in
    let l = c.loop-i in
    looking-stops l.invariant c.loop-i-test.true
    (ap not (le-ltb 0 (get_or a.held.now (get_or a.slot.now l.i 0) 0) (omega (arith, c.if-held-v-eq0.true))))

pub loop-i-preserved : goal.loop-i-preserved
loop-i-preserved c =
    let a = c.args in
    let l = c.loop-i in
    looking-on l.invariant c.loop-i-test.true
    (ap not (lt-ltb 0 (get_or a.held.now (get_or a.slot.now l.i 0) 0) (omega (arith, c.if-held-v-eq0.false))))

pub returns : goal.returns
returns c =
    looking-past c.loop-i.invariant c.loop-i-test.false
