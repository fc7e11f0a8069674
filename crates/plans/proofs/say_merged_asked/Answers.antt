-- `plans::say_merged_asked` meets its contract: the status is that of what is told, which is the sheet's.
use mathlib.Core.Path.{◌∙◌, subst}
use Rattle.meaning.specs.declared.MergedTold.{MergedTold}
use Rattle.files.specs.Status.{Status, status_of, OrFailed}
use Rattle.plans.proofs.say_merged_asked.Goals as goal

pub returns : goal.returns
returns c =
    let said = subst (λ (s : Status). OrFailed s c.say.result) c.from.ensures c.say.ensures in
    subst (λ (t : MergedTold). OrFailed (status_of t.outcome) c.say.result) (c.from-told.ensures ∙ c.ask.ensures) said
