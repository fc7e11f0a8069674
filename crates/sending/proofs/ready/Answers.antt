-- `sending::ready` meets its contract: each call answers with 1 or 0; who waits is read off the list of those that do.
use Rattle.std.proofs.Common.{◌≡◌, Bool, false, cond, not, ◌&&◌, List, ℕ, get_or, ap, ◌∙◌, rules}
use Rattle.meaning.specs.Words.{tab, places, by_node}
use Rattle.meaning.specs.Rounds.{holds, ready, waits}
use Rattle.laws.specs.Few.{at_most63}
use Rattle.laws.proofs.Made.{made_tab}
use Rattle.laws.proofs.Turns.{get_or-tab, tab-same}
use Rattle.sending.proofs.WaitsFor.{one-if}
use Rattle.sending.proofs.ready.Goals as goal

-- who waits stands in the list of those that do
who-waits : (p : ℕ) (parent : ℕ → ℕ) (held : List ℕ) (flags : List Bool) → flags ≡ tab places (waits p parent held)
    → tab places (λ v. cond (holds held v && not (get_or flags v false)) 1 0) ≡ ready p parent held
unfolding ready
who-waits p parent held flags is =
    tab-same places _ _
    (λ k h. ap (λ (b : Bool). cond (holds held k && not b) 1 0) (ap (λ (l : List Bool). get_or l k false) is ∙ get_or-tab places (waits p parent held) k false h))

pub returns : goal.returns
returns c =
    let a = c.args in
    let flags = c.waiting-waits.result in
    made_tab _ _ 65 (λ v. cond (holds a.held.now v && not (get_or flags v false)) 1 0) (λ i y after low k. search (rules, one-if)) 0 _ c.from_fn.ensures.items
    ∙ who-waits (at_most63 a.p) (by_node a.parents.now) a.held.now flags c.waiting-waits.ensures
