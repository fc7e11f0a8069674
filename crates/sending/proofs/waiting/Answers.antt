-- `sending::waiting` meets its contract. The invariant: who waits for one of the first k probes is flagged.
use Rattle.std.proofs.Common.{◌≡◌, ℕ, refl, ap, ◌∙◌, arith}
use Rattle.meaning.specs.Words.{some, tab, places, by_node}
use Rattle.meaning.specs.Rounds.{waits}
use Rattle.sending.proofs.WaitsFor.{parent-waits, nobody-waits}
use Rattle.sending.proofs.waiting.Goals as goal
use Rattle.sending.proofs.waiting.Goals.{then-up-lt65, else-up-lt65}

pub loop-k-init : goal.loop-k-init
unfolding tab some
loop-k-init c = refl

pub loop-k-preserved : goal.loop-k-preserved
loop-k-preserved c =
    let a = c.args in
    let l = c.loop-k in
    elim c.if-up-lt65.branch [
      | then-up-lt65 w ↦ w.flags-is ∙ parent-waits (by_node a.parents.now) a.held.now l.k l.flags l.invariant _ refl w.if-up-lt65.true
      | else-up-lt65 w ↦ w.flags-is ∙ nobody-waits (by_node a.parents.now) a.held.now l.k l.flags l.invariant w.if-up-lt65.false
    ]

pub returns : goal.returns
returns c =
    let a = c.args in
    let all : c.loop-k.k ≡ c.at_most_63-k-end.result = omega arith in
    c.loop-k.invariant ∙ ap (λ (n : ℕ). tab places (waits n (by_node a.parents.now) a.held.now)) (all ∙ c.at_most_63-k-end.ensures)
