-- `grammar::spaces` meets its contract: the search finds what `count` answers, and the marks count as that does.
use Rattle.std.proofs.Common.{◌≡◌, ◌∙◌, sym, eqb, count_by, rules}
use Rattle.graph.specs.Part.{space}
use Rattle.grammar.proofs.Words.{marks-count}
use Rattle.grammar.proofs.spaces.Goals as goal

pub returns : goal.returns
returns c =
    let counted : c.count.result ≡ count_by (λ byte. eqb byte space) c.args.line.now = search rules in
    counted ∙ sym (marks-count space c.args.line.now)
