-- `parse::graph_read` meets its contract: the lines are read from before the first, and what is behind them is the last.
use mathlib.Core.Path.{ap, ◌∙◌}
use Rattle.graph.specs.Reading.{GraphRead}
use Rattle.parse.proofs.Whole.{lent, text-ends}
use Rattle.parse.proofs.graph_read.Goals as goal

pub returns : goal.returns
returns c =
    let start = c.unread-start.ensures in
    let stepped = c.lines_after-stepped in
    let text = c.args.text.now in
    let same =
    text-ends text _ _ start.state start.table _ stepped.ensures.state _ stepped.ensures.table _
    (lent text stepped.result.at ∙ stepped.ensures.behind) _ c.last_read.ensures
    in
    record {
      answer = c.ended.ensures.answer ∙ ap (λ (r : GraphRead). r.answer) same;
      table = c.ended.ensures.table ∙ ap (λ (r : GraphRead). r.table) same;
    }
