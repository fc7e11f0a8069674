-- `plan::Way::run` meets its contract: r rounds are made, and while anything is outside another one follows.
use mathlib.Core.Path.{◌≡◌, sym, ap, ◌∙◌, subst}
use mathlib.Core.Bool.{Bool, false}
use mathlib.Core.List.{List}
use Prim.Native.Nat.{ℕ, ◌-◌, ◌≤◌}
use lib.ListN.{length, take, drop, length-drop}
use Rattle.meaning.specs.Rounds.{Progress, outside, rounds}
use Rattle.laws.specs.Few.{at_most63}
use Rattle.laws.proofs.Few.{as_many}
use Rattle.plan.specs.ColourTurn.{Ready}
use Rattle.plan.specs.TurnByTurn.{goes_by, way_by, from, Going}
use Rattle.plan.proofs.TurnByTurn.{rounds-start, rounds-stop, going-round, going-long, part-from}
use native.Mathlib.Omega.{arith}
use Rattle.plan.proofs.Way.run.Goals as goal

-- at most 63 probes: `any_outside` looks at all of them
within-yard : (p : ℕ) (held : List ℕ) (r : Bool) → p ≤ 63 → r ≡ outside (at_most63 p) held → r ≡ outside p held
within-yard p held r small e = e ∙ ap (λ (n : ℕ). outside n held) (as_many p small)

pub loop-r-init : goal.loop-r-init
loop-r-init c =
    let a = c.args in
    (rounds-start a.self.now a.held.now a.rest.now c.requires)

pub returns-then-not-any_outside : goal.returns-then-not-any_outside
returns-then-not-any_outside c =
    let a = c.args in
    let way = a.self.now in
    let l = c.loop-r in
    let none = within-yard way.probes l.held _ c.requires.small c.any_outside.ensures in
    let home : outside way.probes (rounds (way_by way) l.r (from a.held.now)).held ≡ false =
    subst (λ (h : List ℕ). outside way.probes h ≡ false) l.invariant.holding (sym none ∙ c.if-not-any_outside.true)
    in
    subst (λ (now : Progress). Going way.probes (goes_by way) now l.held a.rest.now l.rest l.at l.slots)
    (sym (rounds-stop way l.r a.sendings a.held.now (omega arith) home)) l.invariant

pub slice_bounds-round-count : goal.slice_bounds-round-count
slice_bounds-round-count c =
    let l = c.loop-r in
    omega (arith, going-long l.invariant, l.invariant.within)

pub slice_bounds-round-start : goal.slice_bounds-round-start
slice_bounds-round-start c =
    let l = c.loop-r in
    omega (arith, going-long l.invariant, l.invariant.within)

pub round-more-requires : goal.round-more-requires
round-more-requires c =
    let a = c.args in
    let l = c.loop-r in
    let room : length a.rest.now - l.at ≡ length (take (length l.rest - l.at) (drop l.at l.rest)) =
    ap (λ (n : ℕ). n - l.at) (sym (going-long l.invariant)) ∙ sym (length-drop l.at l.rest) ∙ ap length (sym (part-from l.rest l.at))
    in
    subst (λ (r : ℕ). Ready a.self.now.probes (goes_by a.self.now) l.held r) room l.invariant.ready

pub overflow_add-at : goal.overflow_add-at
overflow_add-at c =
    let a = c.args in
    let out = sym (within-yard a.self.now.probes c.loop-r.held _ c.requires.small c.any_outside.ensures) ∙ c.if-not-any_outside.false in
    let next = going-round a.self.now c.loop-r.r a.held.now _ _ _ _ _ c.loop-r.invariant out _ _ _ _ c.round-more.ensures in
    omega (arith, next.within)

pub overflow_add-slots : goal.overflow_add-slots
overflow_add-slots c =
    let a = c.args in
    let out = sym (within-yard a.self.now.probes c.loop-r.held _ c.requires.small c.any_outside.ensures) ∙ c.if-not-any_outside.false in
    let next = going-round a.self.now c.loop-r.r a.held.now _ _ _ _ _ c.loop-r.invariant out _ _ _ _ c.round-more.ensures in
    omega (arith, next.within, next.fewer)

pub loop-r-preserved : goal.loop-r-preserved
loop-r-preserved c =
    let a = c.args in
    let out = sym (within-yard a.self.now.probes c.loop-r.held _ c.requires.small c.any_outside.ensures) ∙ c.if-not-any_outside.false in
    let next = going-round a.self.now c.loop-r.r a.held.now _ _ _ _ _ c.loop-r.invariant out _ _ _ _ c.round-more.ensures in
    next

pub returns : goal.returns
returns c =
    let a = c.args in
    let way = a.self.now in
    let l = c.loop-r in
    let all : l.r ≡ a.sendings = omega arith in
    let after : ℕ → Progress = λ n. rounds (way_by way) n (from a.held.now) in
    subst (λ (n : ℕ). Going way.probes (goes_by way) (after n) l.held a.rest.now l.rest l.at l.slots) all l.invariant
