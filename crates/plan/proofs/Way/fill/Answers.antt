-- `plan::Way::fill` meets its contract: `run` writes the slots behind two bytes, and there are no more of them than sendings.
use mathlib.Core.Path.{◌≡◌, sym, ap, ◌∙◌, subst₂}
use mathlib.Core.List.{List}
use Prim.Native.Nat.{ℕ, ◌-◌}
use lib.ListN.{length, take, drop, length-drop, length-set}
use Rattle.meaning.specs.Rounds.{rounds}
use Rattle.plan.specs.ColourTurn.{Ready}
use Rattle.plan.specs.TurnByTurn.{goes_by, way_by, from, Going, held_by}
use Rattle.plan.proofs.TurnByTurn.{part-from}
use Rattle.plan.proofs.Filling.{filled, slots-most}
use native.Mathlib.Omega.{arith}
use Rattle.plan.proofs.Way.fill.Goals as goal

pub run-made-requires : goal.run-made-requires
run-made-requires c =
    let a = c.args in
    let room : length a.buf.now - 2 ≡ length (take (length a.buf.now - 2) (drop 2 a.buf.now)) =
    sym (length-drop 2 a.buf.now) ∙ ap length (sym (part-from a.buf.now 2))
    in
    let first = c.first_held-held in
    subst₂ (λ (h : List ℕ) (r : ℕ). Ready a.self.now.probes (goes_by a.self.now) h r) (sym first.ensures) room c.requires.ready

pub bounds-buf-1 : goal.bounds-buf-1
bounds-buf-1 c =
    simp length-set (omega (arith, c.requires.two))

pub returns : goal.returns
returns c =
    let a = c.args in
    let by = a.self.now in
    let way = way_by by in
    let run = c.run-made in
    let made = run.result in
    let first = held_by by.mode by.probes a.packets in
    let last : List ℕ = run.new.held in
    let part : List ℕ = run.new.rest in
    let most = slots-most by first (length a.buf.now - 2) a.sendings c.requires.ready in
    filled by.probes (goes_by by) (rounds way a.sendings (from first)) last a.buf.now part made.bytes made.slots c.requires.two
    (omega (arith, c.requires.few, most))
    (subst₂ (λ (lent held : List ℕ). Going by.probes (goes_by by) (rounds way a.sendings (from held)) last lent part made.bytes made.slots)
    (part-from a.buf.now 2) c.first_held-held.ensures run.ensures)
