-- `conflict::Links::heard_at` meets its contract: a node that is no probe has an empty row, and a probe the row of its parent.
use Rattle.std.proofs.Common.{refl}
use Rattle.conflict.proofs.Hearing.{none-heard, some-heard}
use Rattle.conflict.proofs.Links.heard_at.Goals as goal

pub returns-then-v-eq0 : goal.returns-then-v-eq0
returns-then-v-eq0 c =
    let its = c.args.self in
    none-heard its.probes.now its.parents.now its.pairs.now c.args.x c.if-v-eq0.true

pub returns : goal.returns
returns c =
    let its = c.args.self in
    some-heard its.probes.now its.parents.now its.pairs.now c.args.x _ _ _ c.if-v-eq0.false refl refl c.heard.ensures
