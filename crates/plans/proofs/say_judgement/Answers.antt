-- `plans::say_judgement` meets its contract: the status is that of the judgement's number.
use mathlib.Core.Path.{subst}
use Rattle.files.specs.Status.{Status, OrFailed}
use Rattle.plans.proofs.say_judgement.Goals as goal

pub returns : goal.returns
returns c = subst (λ (s : Status). OrFailed s c.say.result) c.from.ensures c.say.ensures
