-- `grammar::place_of` meets its contract: none of the words before the one that `find` gives is these bytes, and there is only one first that is.
use Rattle.std.proofs.Common.{◌≡◌, ◌∙◌, Bool, true, false, ℕ, ◌≤◌, ◌<◌, Option, None, Some, arith, rules, tests}
use Rattle.std.specs.Option.{MatchOption, unwrap_or}
use Rattle.std.proofs.lemmas.Iterator.{first_from_Range}
use Rattle.meaning.specs.Words.{least}
use Rattle.laws.proofs.Turns.{none-some}
use Rattle.laws.proofs.First.{least_first, first-only}
use Rattle.graph.specs.Part.{space, part}
use Rattle.graph.specs.Lines.{same}
use Rattle.grammar.proofs.place_of.Goals as goal

-- none below n passes, or i does and none below it
found : (test : ℕ → Bool) (n : ℕ) (r : Option ℕ)
    → MatchOption r ((k : ℕ) → 0 ≤ k → k < n → test k ≡ false) (λ i. (0 ≤ i) × (i < n) × (test i ≡ true) × ((k : ℕ) → 0 ≤ k → k < i → test k ≡ false))
    → unwrap_or r n ≡ least n test
found test n None none =
    first-only test n n (least n test) (record { within = omega arith; none = none-some n test (λ k. none k (omega arith)); passes = λ h. absurd (omega arith) }) (least_first n test)
found test n (Some i) is =
    first-only test n i (least n test) (record { within = omega (arith, is.1); none = none-some i test (λ k. is.3 k (omega arith)); passes = λ _. is.2 }) (least_first n test)

pub returns : goal.returns
returns c =
    let is : ℕ → Bool = λ k. same (part space k c.args.line.now) c.args.bytes.now in
    let first = first_from_Range _ _ _ _ (λ k. is k ≡ true) (λ k. is k ≡ false) c.find.ensures.ran (λ x q k. search (rules, tests)) (λ x q k. search (rules, tests)) in
    c.unwrap_or.ensures ∙ found is c.args.many c.find.result first
