-- `wording::any_senders` meets its contract: a number that is not said of senders has no subject, and each other its own.
use mathlib.Core.Path.{sym, ◌∙◌}
use Rattle.meaning.specs.Lister.{text}
use Rattle.wording.proofs.WhichLine.{these, nobody, both-of, one-of}
use Rattle.wording.proofs.any_senders.Goals as goal

pub returns-then-not-is_of_senders : goal.returns-then-not-is_of_senders
returns-then-not-is_of_senders c = nobody _ _ (sym c.is_of_senders.ensures ∙ c.if-not-is_of_senders.true)

pub returns-then-number-eq15 : goal.returns-then-number-eq15
unfolding text
returns-then-number-eq15 c =
    both-of _ _ c.if-number-eq15.true ∙ these _ _ (sym c.is_of_senders.ensures ∙ c.if-not-is_of_senders.false)

pub returns : goal.returns
unfolding text
returns c =
    one-of _ _ c.if-number-eq15.false ∙ these _ _ (sym c.is_of_senders.ensures ∙ c.if-not-is_of_senders.false)
