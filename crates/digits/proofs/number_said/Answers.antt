-- `digits::number_said` meets its contract: the search finds what `fold` answers, and a number that is capped in between says the same.
use Rattle.std.proofs.Common.{◌≡◌, ◌∙◌, fold, rules}
use Rattle.digits.proofs.Digits.{with_digit, said-folded}
use Rattle.digits.proofs.number_said.Goals as goal

pub returns : goal.returns
returns c =
    let folded : c.fold.result ≡ fold with_digit 0 c.args.word.now = search rules in
    folded ∙ said-folded c.args.word.now
