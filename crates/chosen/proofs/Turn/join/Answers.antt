-- `chosen::Turn::join` meets its contract: the first k probes have had their turn, and `blocked` is what those chosen conflict with.
use mathlib.Core.Path.{◌≡◌, subst}
use Prim.Native.Nat.{ℕ}
use Rattle.meaning.specs.Conflict.{entry}
use Rattle.chosen.specs.Kept.{flag, Joining}
use Rattle.chosen.proofs.Taking.{joining-start, joining-next}
use native.Mathlib.Omega.{arith}
use borrow.Author.Rules.{rules}
use Rattle.chosen.proofs.Turn.join.Goals as goal

pub loop-k-init : goal.loop-k-init
loop-k-init c =
    joining-start _ _ _ _ c.requires

pub consider-requires : goal.consider-requires
consider-requires c =
    let now = c.loop-k.invariant in
    record { node = search rules; known = now.knows }

pub loop-k-preserved : goal.loop-k-preserved
loop-k-preserved c =
    let l = c.loop-k in
    joining-next _ _ _ l.k l.chosen l.blocked l.invariant _ _ c.consider.ensures

pub returns : goal.returns
returns c =
    let a = c.args in
    let l = c.loop-k in
    let all : l.k ≡ a.self.now.probes = omega arith in
    subst (λ (n : ℕ). Joining (entry a.self.now.table.now) (flag a.may.now) a.chosen.now n l.chosen l.blocked) all
    l.invariant
