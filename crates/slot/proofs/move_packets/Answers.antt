-- `slot::move_packets` meets its contract: a lone hop is all, and otherwise what is left from place i on, moved, is the whole slot moved.
use mathlib.Core.Path.{refl, sym, ap, ◌∙◌}
use Prim.Native.Nat.{ℕ, ◌+◌}
use lib.ListN.{get_or, drop}
use Rattle.slot.specs.Move.{moved_within}
use Rattle.slot.proofs.Within.{next-moves, none_moves, lone-moves}
use Rattle.slot.proofs.move_packets.Goals as goal

pub returns-then-slot-eq1 : goal.returns-then-slot-eq1
returns-then-slot-eq1 c =
    let a = c.args in
    c.hop.ensures ∙ lone-moves (λ u. get_or a.parents.now u 0) a.slot.now a.held.now c.if-slot-eq1.true

pub loop-i-init : goal.loop-i-init
loop-i-init c =
    refl

pub loop-i-preserved : goal.loop-i-preserved
loop-i-preserved c =
    let a = c.args in
    let l = c.loop-i in
    let parent : ℕ → ℕ = λ u. get_or a.parents.now u 0 in
    ap (moved_within parent (drop (l.i + 1) a.slot.now)) c.hop-in-loop-i.ensures
    ∙ sym (next-moves parent a.slot.now l.held l.i c.loop-i-test.true)
    ∙ l.invariant

pub returns : goal.returns
returns c =
    let a = c.args in
    let l = c.loop-i in
    sym (none_moves (λ u. get_or a.parents.now u 0) a.slot.now l.held l.i c.loop-i-test.false) ∙ l.invariant
