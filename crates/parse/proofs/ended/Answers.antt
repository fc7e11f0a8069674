-- `parse::ended` meets its contract: a faulty line refuses, then the end does, and what is left is accepted.
use mathlib.Core.Path.{refl, sym, ◌∙◌}
use Rattle.laws.proofs.Refused.{some-number}
use Rattle.parse.proofs.Ends.{line-refuses, end-refuses, accepts}
use Rattle.parse.proofs.ended.Goals as goal

pub returns-then-read-ne0 : goal.returns-then-read-ne0
returns-then-read-ne0 c =
    let all = line-refuses _ _ _ _ c.refused.ensures.table c.if-read-ne0.true c.refused.ensures.answer in record { answer = all.0; table = all.1 }

pub returns-in-Some : goal.returns-in-Some
returns-in-Some c =
    let number = c.number.ensures in
    let all =
    end-refuses _ _ _ _ c.refused-in-Some.ensures.table _ (number ∙ c.in-Some.ensures) c.if-read-ne0.false
    (λ none. some-number (record { fault = c.in-Some.fault; place = 0 }) (sym number ∙ none)) c.refused-in-Some.ensures.answer
    in
    record { answer = all.0; table = all.1 }

pub returns : goal.returns
returns c =
    let all = accepts _ _ 0 c.in_default.ensures c.if-read-ne0.false refl in record { answer = all.0; table = all.1 }
