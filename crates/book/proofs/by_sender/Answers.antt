-- `book::by_sender` meets its contract. The invariant: the places of the nodes passed are put, and behind them is 0.
use Rattle.std.proofs.Common.{◌≡◌, ℕ, ◌+◌, ◌*◌, List, length, sym, ap, ap₂, ◌∙◌, subst, arith, rules}
use Rattle.std.proofs.Math.ListN.{set, get_or-eq_default}
use Rattle.book.specs.declared.Lists.{Lists}
use Rattle.book.specs.Layout.{all_sends, all_hears}
use Rattle.book.proofs.LayingOut.{Told, told-start, told-both, told-own, sends-of, hears-of}
use Rattle.book.proofs.by_sender.Goals as goal
use Rattle.book.proofs.by_sender.Goals.{then-up-lt65, else-up-lt65}

pub loop-v-init : goal.loop-v-init
loop-v-init c =
    told-start _ _ _

pub loop-v-preserved : goal.loop-v-preserved
loop-v-preserved c =
    let a = c.args in
    let turn = c.loop-v in
    let v = turn.v in
    let low = c.loop-v-test.true in
    let long : length a.lists.now ≡ 65 = search rules in
    let sends = all_sends a.lists.now in
    let hears = all_hears a.lists.now in
    elim c.if-up-lt65.branch [
      | then-up-lt65 w ↦
          subst (λ (l : List ℕ). Told a.tree.now.parents sends hears (v + 1) l)
          (ap₂ (λ (n m : ℕ). set (set turn.at (2 * v) n) (2 * v + 1) m) (sends-of a.lists.now v) (hears-of a.lists.now _) ∙ sym w.at-is)
          (told-both a.tree.now.parents sends hears v turn.at turn.invariant low)
      | else-up-lt65 w ↦
          subst (λ (l : List ℕ). Told a.tree.now.parents sends hears (v + 1) l)
          (ap (λ (n : ℕ). set turn.at (2 * v) n) (sends-of a.lists.now v) ∙ sym w.at-is)
          (told-own a.tree.now.parents sends hears v turn.at turn.invariant low
          (hears-of a.lists.now _ ∙ ap (λ (l : Lists). l.hears) (get_or-eq_default a.lists.now _ (omega (arith, w.if-up-lt65.false)))))
    ]

pub returns : goal.returns
returns c =
    let done = c.loop-v in
    record { own = λ v h. done.invariant.own v (omega arith); parents = λ v h. done.invariant.up v (omega arith) }
