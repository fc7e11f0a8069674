-- `plan::merged` meets its contract: it is the plan by probe in its mode.
use mathlib.Core.Path.{ap, ◌∙◌}
use mathlib.Core.List.{List}
use Prim.Native.Nat.{ℕ}
use lib.ListN.{length}
use Rattle.meaning.specs.declared.Mode.TheVariants.{Merged}
use Rattle.meaning.specs.Plan.{front}
use Rattle.meaning.specs.Rounds.{Way}
use Rattle.meaning.specs.Answer.{plan_made_in}
use Rattle.plan.proofs.Answered.{of-readings}
use Rattle.plan.proofs.merged.Goals as goal

pub returns : goal.returns
returns c =
    let a = c.args in
    let made = c.by_probe_in.ensures in
    let room = length a.buf.now in
    record {
      answer = made.answer ∙ ap (λ (by : List ℕ → Way). (plan_made_in Merged by a.sheet.now room).answer) of-readings;
      buffer = made.buffer ∙ ap (λ (by : List ℕ → Way). front a.buf.now (plan_made_in Merged by a.sheet.now room).written) of-readings;
    }
