-- `sheet::probe_test` meets its contract: at each answer the law of that answer, from the bytes that were read and the tests that led there.
use Rattle.sheet.proofs.Records.{parent-refused, packets-refused, probe-passed}
use Rattle.sheet.proofs.probe_test.Goals as goal

pub returns-then-parent_wrong : goal.returns-then-parent_wrong
returns-then-parent_wrong c =
    parent-refused _ _ _ _ _ c.number_at.ensures c.parent_wrong.ensures c.if-parent_wrong.true

pub returns-then-packets_wrong : goal.returns-then-packets_wrong
returns-then-packets_wrong c =
    let test = c in
    packets-refused _ _ _ _ _ test.number_at.ensures test.parent_wrong.ensures test.if-parent_wrong.false _ _
    c.number_at-2.ensures c.packets_wrong.ensures c.if-packets_wrong.true

pub returns : goal.returns
returns c =
    let test = c in
    probe-passed _ _ _ _ _ test.number_at.ensures test.parent_wrong.ensures test.if-parent_wrong.false _ _
    c.number_at-2.ensures c.packets_wrong.ensures c.if-packets_wrong.false
