-- `chosen::Turn::consider` meets its contract: each return has the tests that led there, and `block` adds the row of the probe taken.
use mathlib.Core.Path.{refl}
use mathlib.Core.List.{[]}
use lib.ListN.{get_or}
use Rattle.chosen.proofs.Taking.{not-allowed, not_free, taken}
use Rattle.chosen.proofs.Turn.consider.Goals as goal

pub returns-then-not-may-i : goal.returns-then-not-may-i
returns-then-not-may-i c =
    let a = c.args in
    not-allowed _ _ a.v.0 a.chosen.now a.blocked.now c.requires.node c.told-chosen c.requires.known
    c.if-not-may-i.true

pub returns-then-blocked-i : goal.returns-then-blocked-i
returns-then-blocked-i c =
    let a = c.args in
    not_free _ _ a.v.0 a.chosen.now a.blocked.now c.requires.node c.told-chosen c.requires.known c.if-blocked-i.true

pub returns : goal.returns
returns c =
    let a = c.args in
    taken _ _ a.v.0 a.chosen.now a.blocked.now c.requires.node c.told-chosen c.requires.known
    c.if-not-may-i.false
    c.if-blocked-i.false (get_or a.self.now.table.now a.v.0 []) c.block.new.blocked (λ i. refl) c.block.ensures
