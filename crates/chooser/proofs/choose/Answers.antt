-- `chooser::choose` meets its contract: each arm hands back what its choice says.
use mathlib.Core.Path.{◌≡◌, refl, sym, ◌∙◌}
use Rattle.meaning.specs.declared.Choice.TheVariants.{Neither, First, Second}
use Rattle.meaning.specs.Judge.{choice}
use Rattle.chooser.proofs.Choosing.{bytes_back, handed}
use Rattle.chooser.proofs.choose.Goals as goal

pub returns-in-First : goal.returns-in-First
returns-in-First c =
    let a = c.args in
    let is : First ≡ choice a.sheet.now a.first.now a.second.now = sym c.in-First.is ∙ c.choice.ensures in
    record { bytes = bytes_back First _ a.first a.second is _ refl; itself = handed First _ a.first a.second is _ refl }

pub returns-in-Second : goal.returns-in-Second
returns-in-Second c =
    let a = c.args in
    let is : Second ≡ choice a.sheet.now a.first.now a.second.now = sym c.in-Second.is ∙ c.choice.ensures in
    record { bytes = bytes_back Second _ a.first a.second is _ refl; itself = handed Second _ a.first a.second is _ refl }

pub returns-in-Neither : goal.returns-in-Neither
returns-in-Neither c =
    let a = c.args in
    let is : Neither ≡ choice a.sheet.now a.first.now a.second.now = sym c.in-Neither.is ∙ c.choice.ensures in
    record { bytes = bytes_back Neither _ a.first a.second is _ refl; itself = handed Neither _ a.first a.second is _ (refl, refl) }
