-- `conflict::Links::heard` meets its contract: each call answers with its place of the row.
use Rattle.std.proofs.Common.{ℕ, Bool, false, ap, ◌∙◌, rules}
use Rattle.meaning.specs.Words.{tab, places}
use Rattle.laws.proofs.Made.{made_tab}
use Rattle.conflict.specs.Heard.{heard_in}
use Rattle.conflict.proofs.Links.heard.Goals as goal

pub returns : goal.returns
returns c =
    let a = c.args in
    let its = a.self in
    let row : ℕ → ℕ → Bool = heard_in its.probes.now its.parents.now a.paired.now a.x a.up in
    made_tab _ _ 65 (row c.number_at-over.result) (λ i y after low k. search rules) false _ c.from_fn.ensures.items
    ∙ ap (λ (over : ℕ). tab places (row over)) c.number_at-over.ensures
