-- `lines::Text::words` meets its contract: the bytes that have room are written behind those that stand.
use Rattle.lines.proofs.Saying.{say-written}
use Rattle.lines.proofs.Text.words.Goals as goal

pub returns : goal.returns
returns g c =
    let before = c.self in
    say-written _ _ _ _ _ _ _ _ before.told before.invariant c.min-n.ensures c.copy_from_slice.ensures.after before.view_is
