-- `sheet::pair_records` meets its contract: the rest of the sheet behind q, which stands below 512.
use native.Mathlib.Omega.{arith}
use mathlib.Core.Path.{ap, ◌∙◌}
use Prim.Native.Nat.{ℕ, ◌+◌}
use lib.ListN.{drop}
use Rattle.sheet.proofs.pair_records.Goals as goal

pub overflow_add-at : goal.overflow_add-at
overflow_add-at c =
    omega (arith, c.pair_count_at-at.ensures, c.type_inv.sheet 0)

pub returns : goal.returns
returns c =
    c.rest.ensures ∙ ap (λ (at : ℕ). drop (at + 2) c.args.sheet.now) c.pair_count_at-at.ensures
