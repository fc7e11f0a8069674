-- `plan::colours_by_level` meets its contract: each call looks the colour of a level up.
use Rattle.std.proofs.Common.{rules}
use lib.ListN.{get_or}
use Rattle.laws.proofs.Made.{made_tab}
use Rattle.plan.proofs.colours_by_level.Goals as goal

pub returns : goal.returns
returns c = made_tab _ _ 65 (λ v. get_or c.args.colours (get_or c.args.levels v 0) 0) (λ i y after low k. search rules) 0 _ c.from_fn.ensures.items
