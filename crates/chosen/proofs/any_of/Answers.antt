-- `chosen::any_of` meets its contract: before the index it has looked at all flags.
use mathlib.Core.Path.{refl, sym, ap, ◌∙◌}
use mathlib.Core.Bool.{Bool, false, ◌||◌}
use lib.ListN.{get_or}
use Rattle.meaning.specs.Words.{some}
use Rattle.laws.proofs.Turns.{some_one}
use Rattle.chosen.proofs.any_of.Goals as goal

pub loop-up-init : goal.loop-up-init
unfolding some
loop-up-init c = refl

pub loop-up-preserved : goal.loop-up-preserved
loop-up-preserved c =
    let flags = c.args.flags.now in
    let l = c.loop-up in
    ap (λ (b : Bool). b || get_or flags l.up-index false) l.invariant ∙ sym (some_one l.up-index (λ v. get_or flags v false))
