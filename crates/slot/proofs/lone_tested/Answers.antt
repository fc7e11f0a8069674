-- `slot::lone_tested` meets its contract: each test that finds something gives its number and names the sender, which is a node once 12 is not given.
use mathlib.Core.Path.{sym, ◌∙◌}
use Rattle.laws.proofs.Walk.{probe-most}
use Rattle.slot.proofs.Tests.{lone-12, lone-14, lone-none}
use native.Mathlib.Omega.{arith}
use Rattle.slot.proofs.lone_tested.Goals as goal

pub returns-then-not-is_probe : goal.returns-then-not-is_probe
returns-then-not-is_probe c =
    let a = c.args in
    c.blamed.ensures ∙ lone-12 _ c.at_most_63.ensures a.held.now _ a.sender (sym c.is_probe.ensures ∙ c.if-not-is_probe.true)

pub bounds-held-node : goal.bounds-held-node
bounds-held-node c =
    let few = c.at_most_63 in
    omega
    (arith, few.ensures, probe-most few.result c.args.sender (sym c.is_probe.ensures ∙ c.if-not-is_probe.false))

pub returns-then-held-node-eq0 : goal.returns-then-held-node-eq0
returns-then-held-node-eq0 c =
    let a = c.args in
    c.blamed-then-held-node-eq0.ensures
    ∙ lone-14 _ c.at_most_63.ensures a.held.now _ a.sender (sym c.is_probe.ensures ∙ c.if-not-is_probe.false)
    (omega (arith, c.if-held-node-eq0.true))

pub returns : goal.returns
returns c =
    let a = c.args in
    lone-none _ c.at_most_63.ensures a.held.now _ a.sender (sym c.is_probe.ensures ∙ c.if-not-is_probe.false)
    (omega (arith, c.if-held-node-eq0.false))
