-- `conflict::either` meets its contract: what is no probe has an empty row, and of a probe each call answers with its place of the row.
use Rattle.std.proofs.Common.{false, rules}
use Rattle.meaning.specs.Conflict.{entry}
use Rattle.laws.proofs.Made.{made_tab}
use Rattle.conflict.specs.Heard.{either_way}
use Rattle.conflict.proofs.Hearing.{no_row, own_row}
use Rattle.conflict.proofs.either.Goals as goal

pub returns-then-probes-x-eq0 : goal.returns-then-probes-x-eq0
returns-then-probes-x-eq0 c =
    let a = c.args in
    no_row a.probes.now (either_way (entry a.heard.now)) a.x c.if-probes-x-eq0.true

pub returns : goal.returns
returns c =
    let a = c.args in
    own_row a.probes.now (either_way (entry a.heard.now)) a.x _ c.if-probes-x-eq0.false
    (made_tab _ _ 65 (either_way (entry a.heard.now) a.x) (λ i y after low k. search rules) false _ c.from_fn.ensures.items)
