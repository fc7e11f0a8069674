-- `sending::readings` meets its contract: each call answers with what its node holds.
use Rattle.std.proofs.Common.{ℕ, ◌+◌, cond, ◌&&◌, leb, ap, ◌∙◌, rules}
use Rattle.meaning.specs.Words.{tab, places}
use Rattle.laws.proofs.Made.{made_tab}
use Rattle.sending.proofs.WaitsFor.{one-if}
use Rattle.sending.proofs.readings.Goals as goal

pub returns : goal.returns
returns c =
    made_tab _ _ 65 (λ v. cond (leb 2 v && leb v (c.at_most_63.result + 1)) 1 0) (λ i y after low k. search (rules, one-if)) 0 _ c.from_fn.ensures.items
    ∙ ap (λ (n : ℕ). tab places (λ v. cond (leb 2 v && leb v (n + 1)) 1 0)) c.at_most_63.ensures
