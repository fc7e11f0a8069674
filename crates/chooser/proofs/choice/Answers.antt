-- `chooser::choice` meets its contract: the choice between the two verdicts, without their names.
use mathlib.Core.Path.{ap}
use Rattle.meaning.specs.declared.Verdict.{Verdict}
use Rattle.meaning.specs.declared.Judgement.{Judgement}
use Rattle.meaning.specs.Judge.{judgement_in}
use Rattle.chooser.proofs.Choosing.{chosen}
use Rattle.chooser.proofs.choice.Goals as goal

abbrev verdict : Judgement → Verdict
verdict r = r.verdict

pub returns : goal.returns
unfolding judgement_in
returns c =
    let second = c in
    let first = second in
    chosen _ _ _ _ _ _ (ap verdict first.judgement-on_first.ensures.answer) (ap verdict second.judgement-on_second.ensures.answer) c.choose_by.ensures
