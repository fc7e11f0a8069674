-- `plans::write_planned` meets its contract: the status is that of the plan's number.
use mathlib.Core.Path.{subst}
use Rattle.files.specs.Status.{Status, OrFailed}
use Rattle.plans.proofs.write_planned.Goals as goal

pub returns : goal.returns
returns c = subst (λ (s : Status). OrFailed s c.say.result) c.from.ensures c.say.ensures
