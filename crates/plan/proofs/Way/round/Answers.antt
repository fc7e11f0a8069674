-- `plan::Way::round` meets its contract: the first s colours have had their turn, and each slot stands behind the one before.
use mathlib.Core.Path.{◌≡◌, refl, sym, ap, ◌∙◌, subst}
use Prim.Native.Nat.{ℕ, ◌-◌}
use lib.ListN.{length, take, drop, length-drop}
use Rattle.meaning.specs.Rounds.{Progress}
use Rattle.plan.specs.ColourTurn.{Ready}
use Rattle.plan.specs.TurnByTurn.{goes_by, Going}
use Rattle.plan.proofs.TurnByTurn.{turns, turns-all, going_start, going_next, going-long, part-from}
use native.Mathlib.Omega.{arith}
use Rattle.plan.proofs.Way.round.Goals as goal

pub loop-s-init : goal.loop-s-init
loop-s-init c =
    let a = c.args in
    let by = a.self.now in
    (going_start by a.held.now a.rest.now c.requires)

pub slice_bounds-turn-count : goal.slice_bounds-turn-count
slice_bounds-turn-count c =
    let l = c.loop-s in
    omega (arith, going-long l.invariant, l.invariant.within)

pub slice_bounds-turn-start : goal.slice_bounds-turn-start
slice_bounds-turn-start c =
    let l = c.loop-s in
    omega (arith, going-long l.invariant, l.invariant.within)

pub turn-bytes-requires : goal.turn-bytes-requires
turn-bytes-requires c =
    let a = c.args in
    let l = c.loop-s in
    let room : length a.rest.now - l.at ≡ length (take (length l.rest - l.at) (drop l.at l.rest)) =
    ap (λ (n : ℕ). n - l.at) (sym (going-long l.invariant)) ∙ sym (length-drop l.at l.rest) ∙ ap length (sym (part-from l.rest l.at))
    in
    subst (λ (r : ℕ). Ready a.self.now.probes (goes_by a.self.now) l.held r) room l.invariant.ready

pub overflow_add-at : goal.overflow_add-at
overflow_add-at c =
    let next = going_next _ _ _ _ _ _ _ _ c.loop-s.invariant _ _ _ c.turn-bytes.ensures _ refl in
    omega (arith, next.within)

pub overflow_add-slots : goal.overflow_add-slots
overflow_add-slots c =
    let next = going_next _ _ _ _ _ _ _ _ c.loop-s.invariant _ _ _ c.turn-bytes.ensures _ c.slots_in-slots.ensures in
    omega (arith, next.within, next.fewer)

pub loop-s-preserved : goal.loop-s-preserved
loop-s-preserved c =
    (going_next _ _ _ _ _ _ _ _ c.loop-s.invariant _ _ _ c.turn-bytes.ensures _ c.slots_in-slots.ensures)

pub returns : goal.returns
returns c =
    let a = c.args in
    let l = c.loop-s in
    let all : l.s ≡ a.self.now.colours = omega arith in
    let by = a.self.now in
    subst (λ (now : Progress). Going a.self.now.probes (goes_by a.self.now) now l.held a.rest.now l.rest l.at l.slots)
    (ap (λ (k : ℕ). turns by k a.held.now) all ∙ turns-all by a.held.now)
    l.invariant
