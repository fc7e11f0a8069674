-- `dealer::milliseconds` meets its contract: the laws of a word with another byte in it, of a number that is too large, and of any other.
use mathlib.Core.Path.{sym, ◌∙◌}
use Rattle.dealer.proofs.SlotSaid.{others-say-nothing, long-says-nothing, number-says}
use native.Mathlib.Omega.{arith}
use Rattle.dealer.proofs.milliseconds.Goals as goal

pub returns-then-others_stand : goal.returns-then-others_stand
returns-then-others_stand c =
    others-say-nothing _ (sym c.others_stand.ensures ∙ c.if-others_stand.true)

pub returns-then-said-gt-LONGEST_SLOT : goal.returns-then-said-gt-LONGEST_SLOT
returns-then-said-gt-LONGEST_SLOT c =
    long-says-nothing _ (sym c.others_stand.ensures ∙ c.if-others_stand.false) (omega (arith, c.if-said-gt-LONGEST_SLOT.true, c.number_said-said.ensures))

pub returns-else-said-gt-LONGEST_SLOT : goal.returns-else-said-gt-LONGEST_SLOT
returns-else-said-gt-LONGEST_SLOT c =
    let said = c.number_said-said.ensures in
    said ∙ number-says _ (sym c.others_stand.ensures ∙ c.if-others_stand.false) (omega (arith, c.if-said-gt-LONGEST_SLOT.false, said))
