-- `branch::most_weight` meets its contract. The invariant: so far it is the most over the first k tops, by any function that says what each weighs.
use Rattle.std.proofs.Common.{◌≡◌, ℕ, ◌+◌}
use Rattle.meaning.specs.Words.{most}
use Rattle.branch.proofs.most_weight.Given as goal

abbrev pub invariant-loop-k : goal.invariant-loop-k
invariant-loop-k g l =
    (weight_of : ℕ → ℕ) → ((top r : ℕ) → goal.F-post g l.weight top r → r ≡ weight_of top) → l.best ≡ most l.k (λ i. weight_of (i + 2))
