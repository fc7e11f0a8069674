-- `plans::write_merged` meets its contract: the answer is the planner's.
use mathlib.Core.Path.{◌∙◌, subst}
use Rattle.meaning.specs.declared.Planned.{Planned}
use Rattle.files.specs.Status.{status_of, OrFailed}
use Rattle.plans.proofs.write_merged.Goals as goal

pub returns : goal.returns
returns c =
    subst (λ (p : Planned). OrFailed (status_of p.outcome) c.write_planned.result) (c.from-planned.ensures ∙ c.merged.ensures.answer) c.write_planned.ensures
