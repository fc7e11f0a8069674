-- `sheet::pair_count` meets its contract: two bytes below 256, read where q stands.
use native.Mathlib.Omega.{arith}
use Rattle.sheet.proofs.Parts.{pair-count-read}
use Rattle.sheet.proofs.pair_count.Goals as goal

pub overflow_add-at : goal.overflow_add-at
overflow_add-at c =
    omega (arith, c.pair_count_at-at.ensures, c.type_inv.sheet 0)

pub returns : goal.returns
returns c =
    pair-count-read c.args.sheet.now _ _ _ c.pair_count_at-at.ensures
    c.number_at.ensures c.number_at-2.ensures
