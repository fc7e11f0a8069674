-- `slot::no_probe` meets its contract: each sender before i is a probe.
use mathlib.Core.Path.{sym, ap, ◌∙◌}
use mathlib.Core.Bool.{not}
use Rattle.slot.proofs.Looking.{looking-starts, looking-on, looking-stops, looking-past}
use Rattle.slot.proofs.no_probe.Goals as goal

pub loop-i-init : goal.loop-i-init
loop-i-init c =
    (c.at_most_63-probes.ensures, looking-starts)

pub returns-then-not-is_probe : goal.returns-then-not-is_probe
returns-then-not-is_probe c =
    let l = c.loop-i in
    rw (← l.invariant.0)
    (looking-stops l.invariant.1 c.loop-i-test.true (ap not (sym c.is_probe.ensures ∙ c.if-not-is_probe.true)))

pub loop-i-preserved : goal.loop-i-preserved
loop-i-preserved c =
    let l = c.loop-i in
    (l.invariant.0, looking-on l.invariant.1 c.loop-i-test.true (ap not (sym c.is_probe.ensures ∙ c.if-not-is_probe.false)))

pub returns : goal.returns
returns c =
    let l = c.loop-i in rw (← l.invariant.0) (looking-past l.invariant.1 c.loop-i-test.false)
