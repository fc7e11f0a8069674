-- `sheet::pair_test` meets its contract: at each answer the law of that answer, from the bytes that were read and the tests that led there.
use Rattle.sheet.proofs.Records.{pair-refused, first-passed, order-refused, pair-passed}
use Rattle.sheet.proofs.pair_test.Goals as goal

pub returns-then-pair_wrong : goal.returns-then-pair_wrong
returns-then-pair_wrong c =
    pair-refused _ _ _ _ _ _ c.number_at-a.ensures c.number_at-b.ensures c.pair_wrong.ensures c.if-pair_wrong.true

pub returns-then-k-eq0 : goal.returns-then-k-eq0
returns-then-k-eq0 c =
    first-passed _ _ _ _ _ _ c.number_at-a.ensures c.number_at-b.ensures
    c.pair_wrong.ensures c.if-pair_wrong.false c.if-k-eq0.true

pub returns-then-rises : goal.returns-then-rises
returns-then-rises c =
    let later = c in
    pair-passed _ _ _ _ _ _ later.number_at-a.ensures later.number_at-b.ensures
    later.pair_wrong.ensures later.if-pair_wrong.false later.if-k-eq0.false _ _ _ c.number_at.ensures
    c.number_at-2.ensures c.rises.ensures c.if-rises.true

pub returns : goal.returns
returns c =
    let later = c in
    order-refused _ _ _ _ _ _ later.number_at-a.ensures later.number_at-b.ensures
    later.pair_wrong.ensures later.if-pair_wrong.false later.if-k-eq0.false _ _ _ c.number_at.ensures
    c.number_at-2.ensures c.rises.ensures c.if-rises.false
