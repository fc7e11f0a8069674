-- `conflict::table` meets its contract. The invariant: the table is filled as far as the loop has come.
use Rattle.std.proofs.Common.{◌≡◌, get_or, length, refl, rules, arith, ◌∙◌}
use Rattle.std.proofs.Math.ListN.{length-set}
use mir.Val.{Fits}
use mir.Syntax.{w8}
use Rattle.meaning.specs.Sheet.{interfere}
use Rattle.meaning.specs.Words.{tab}
use Rattle.laws.proofs.Turns.{tab-next}
use Rattle.conflict.proofs.Hearing.{conflict-rows}
use Rattle.conflict.proofs.Tables.{filled}
use Rattle.conflict.proofs.table.Goals as goal

pub loop-x-init : goal.loop-x-init
unfolding tab
loop-x-init c = (refl, refl)

pub loop-x-preserved : goal.loop-x-preserved
loop-x-preserved c =
    let h = c.loop-x in
    let long : length h.row-items ≡ 65 = h.invariant.0 in (
      simp length-set long,
      tab-next h.row-items h.x _ c.either.result (omega arith) h.invariant.1 c.either.ensures,
    )

pub returns : goal.returns
returns c =
    let h = c.loop-x in
    filled h.row-items h.x 65 _ h.invariant.0 h.invariant.1 c.loop-x-test.false c.loop-x.auto.x-end
    ∙ conflict-rows c.args.p c.args.parents (interfere c.args.records.now c.args.q) _
    c.pair_table.ensures
    (λ v _. let byte : Fits w8 (get_or c.args.parents v 0) = search rules in byte.fits)
    _ _ c.probes-probes.ensures c.heard_table.ensures
