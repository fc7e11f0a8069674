-- `digits::others_stand` meets its contract: what `any` answers over the word, whose test recurses as that does.
use Rattle.std.proofs.Common.{◌∙◌, not, tests, rules}
use Rattle.std.proofs.lemmas.Iterator.{YieldsList-from_slice}
use Rattle.std.proofs.lemmas.Iterator.Search.{any_from_yields_List}
use Rattle.digits.specs.Digits.{is_digit}
use Rattle.digits.proofs.Digits.{others-any}
use Rattle.digits.proofs.others_stand.Goals as goal

pub returns : goal.returns
returns c =
    any_from_yields_List (λ byte. not (is_digit byte)) _ _ _ c.any.ensures.ran (YieldsList-from_slice c.args.word.now cc) (λ x b q k. search (rules, tests))
    ∙ others-any c.args.word.now
