-- `conflict::Links::heard_table` meets its contract. The invariant: the table is filled as far as the loop has come.
use Rattle.std.proofs.Common.{◌≡◌, length, refl, arith}
use Rattle.std.proofs.Math.ListN.{length-set}
use Rattle.meaning.specs.Words.{tab}
use Rattle.laws.proofs.Turns.{tab-next}
use Rattle.conflict.proofs.Tables.{filled}
use Rattle.conflict.proofs.Links.heard_table.Goals as goal

pub loop-x-init : goal.loop-x-init
unfolding tab
loop-x-init c = (c.told-t, refl)

pub loop-x-preserved : goal.loop-x-preserved
loop-x-preserved c =
    let h = c.loop-x in
    let long : length h.t ≡ 65 = h.invariant.0 in (
      simp length-set long,
      tab-next h.t h.x _ c.heard_at.result (omega arith) h.invariant.1 c.heard_at.ensures,
    )

pub returns : goal.returns
returns c =
    let h = c.loop-x in
    filled h.t h.x 65 _ h.invariant.0 h.invariant.1 c.loop-x-test.false c.loop-x.auto.x-end
