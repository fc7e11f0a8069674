-- `slot::slot_tested` meets its contract: each search that finds something gives its number and names what it found; behind 12 the senders are nodes.
use mathlib.Core.Path.{◌∙◌}
use Rattle.slot.proofs.Pairs.{second-within}
use Rattle.slot.proofs.Tests.{lone-slot, gives-12, gives-13, gives-14, gives-15, gives_none, nodes}
use Rattle.slot.proofs.slot_tested.Goals as goal

pub returns-then-many-eq1 : goal.returns-then-many-eq1
returns-then-many-eq1 c =
    c.lone_tested.ensures ∙ lone-slot _ _ _ _ c.args.slot.now c.if-many-eq1.true

pub returns-then-stranger-many : goal.returns-then-stranger-many
returns-then-stranger-many c =
    c.blamed.ensures ∙ gives-12 _ _ _ _ _ _ c.no_probe-stranger.ensures c.if-stranger-many.true

pub returns-then-later-many : goal.returns-then-later-many
returns-then-later-many c =
    c.blamed-then-later-many.ensures
    ∙ gives-13 _ _ _ _ _ _ c.no_probe-stranger.ensures c.if-stranger-many.false _ c.not_rising-later.ensures c.if-later-many.true

pub no_packet-empty-requires : goal.no_packet-empty-requires
no_packet-empty-requires c =
    nodes c.args.p c.args.slot.now _ c.no_probe-stranger.ensures c.if-stranger-many.false

pub returns-then-empty-many : goal.returns-then-empty-many
returns-then-empty-many c =
    c.blamed-then-empty-many.ensures
    ∙ gives-14 _ _ _ _ _ _ c.no_probe-stranger.ensures c.if-stranger-many.false _ c.not_rising-later.ensures c.if-later-many.false
    _ c.no_packet-empty.ensures c.if-empty-many.true

pub two_conflict-two-requires : goal.two_conflict-two-requires
two_conflict-two-requires c =
    nodes c.args.p c.args.slot.now _ c.no_probe-stranger.ensures c.if-stranger-many.false

pub bounds-slot-second : goal.bounds-slot-second
bounds-slot-second c =
    second-within _ _ _ c.two_conflict-two.ensures c.if-first-many.true

pub returns-then-first-many : goal.returns-then-first-many
returns-then-first-many c =
    c.blamed-then-first-many.ensures
    ∙ gives-15 _ _ _ _ _ _ c.no_probe-stranger.ensures c.if-stranger-many.false _ c.not_rising-later.ensures c.if-later-many.false
    _ c.no_packet-empty.ensures c.if-empty-many.false _ c.two_conflict-two.ensures c.if-first-many.true

pub returns : goal.returns
returns c =
    gives_none _ _ _ _ _ _ c.no_probe-stranger.ensures c.if-stranger-many.false _ c.not_rising-later.ensures c.if-later-many.false
    _ c.no_packet-empty.ensures c.if-empty-many.false _ c.two_conflict-two.ensures c.if-first-many.false
