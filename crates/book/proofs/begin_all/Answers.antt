-- `book::begin_all` meets its contract. The invariant: both lists of the first k probes begin.
use Rattle.std.proofs.Common.{◌≡◌, ℕ, ◌+◌, refl, sym, ap, ◌∙◌, arith}
use Rattle.meaning.specs.Words.{by_node, for_each}
use Rattle.book.specs.Layout.{all_sends, all_hears, begun, all_begun}
use Rattle.book.proofs.LayingOut.{begin-next, sends-of, hears-of}
use Rattle.book.proofs.begin_all.Goals as goal

pub loop-k-init : goal.loop-k-init
unfolding all_begun for_each
loop-k-init c = refl

pub loop-k-preserved : goal.loop-k-preserved
loop-k-preserved c =
    let a = c.args in
    let turn = c.loop-k in
    begin-next (by_node (all_sends a.lists.now)) (by_node (all_hears a.lists.now)) turn.k a.book.now _ _ _ turn.invariant
    (c.begin.ensures ∙ ap (λ (n : ℕ). begun n turn.book) (sym (sends-of a.lists.now (turn.k + 2))))
    (c.begin-in-loop-k.ensures ∙ ap (λ (n : ℕ). begun n c.begin.new.book) (sym (hears-of a.lists.now (turn.k + 2))))

pub returns : goal.returns
returns c =
    let full : c.loop-k.k ≡ c.args.p = omega arith in
    rw full at c.loop-k.invariant
