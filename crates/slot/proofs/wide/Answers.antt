-- `slot::wide` meets its contract: before place i the packets are copied.
use mathlib.Core.Path.{◌≡◌, refl, ◌∙◌, subst}
use Prim.Native.Nat.{ℕ}
use lib.ListN.{length, get_or, take, length-set}
use Rattle.meaning.specs.Words.{tab}
use Rattle.laws.proofs.Turns.{tab-next, tab-full, tab-of}
use native.Mathlib.Omega.{arith}
use borrow.Author.Rules.{rules}
use Rattle.slot.proofs.wide.Goals as goal

pub loop-i-init : goal.loop-i-init
unfolding tab
loop-i-init c =
    (search rules, refl, refl)

pub loop-i-preserved : goal.loop-i-preserved
loop-i-preserved c =
    let l = c.loop-i in
    (search rules, simp length-set l.invariant.1, tab-next l.held l.i _ _ (omega (arith, l.invariant.1, c.loop-i-test.true)) l.invariant.2 refl)

pub returns : goal.returns
returns c =
    let long : length c.args.packets ≡ 65 = search rules in
    let l = c.loop-i in
    let all : l.i ≡ 65 = omega (arith, l.invariant.0, c.loop-i-test.false) in
    tab-full l.held 65 _ l.invariant.1 (subst (λ (n : ℕ). take n l.held ≡ tab n (λ k. get_or c.args.packets k 0)) all l.invariant.2)
    ∙ tab-of 65 c.args.packets 0 long
