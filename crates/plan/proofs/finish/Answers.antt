-- `plan::finish` meets its contract: what `fill` says, since there are never more slots than fit two bytes.
use mathlib.Core.Path.{◌≡◌, ap, ◌∙◌, subst}
use mathlib.Core.List.{List}
use Prim.Native.Nat.{ℕ, ◌≤◌}
use lib.ListN.{length}
use Rattle.meaning.specs.Plan.{plan_bytes, front}
use Rattle.meaning.specs.Answer.{accepted}
use Rattle.plan.specs.TurnByTurn.{way_on, held_by, slots_by, Filled}
use Rattle.plan.specs.Answered.{Finished}
use native.Mathlib.Omega.{arith}
use Rattle.plan.proofs.finish.Goals as goal

-- a plan that is written is answered for
finished : {plan plan' : List (List ℕ)} {m bytes slots : ℕ} {buffer buffer' : List ℕ} → plan ≡ plan' → Filled plan buffer buffer' bytes slots
    → Finished plan' m buffer buffer' (record { outcome = accepted; colours = m; slots = slots; bytes = bytes })
finished {m} {buffer} same filled =
    let many = filled.made ∙ ap length same in
    let long = filled.counted ∙ ap (λ (l : List (List ℕ)). length (plan_bytes l)) same in
    record {
      few = subst (λ (l : List (List ℕ)). length l ≤ 65535) same filled.few;
      answers = λ i. record { outcome = accepted; colours = m; slots = many i; bytes = long i };
      wrote = filled.wrote ∙ ap (λ (l : List (List ℕ)). front buffer (plan_bytes l)) same;
    }

pub returns-then-slots-gt65535 : goal.returns-then-slots-gt65535
returns-then-slots-gt65535 c =
    let filled = c.fill-made.ensures in
    absurd (omega (arith, filled.few, filled.made, c.if-slots-gt65535.true))

pub returns : goal.returns
returns c =
    let fill = c in
    let a = fill.args in
    let tree = a.tree in
    let held = held_by a.mode tree.probes tree.packets in
    let by = way_on a.mode tree.probes tree.parents a.own a.m a.table in
    finished (ap (λ (n : ℕ). slots_by by n held) fill.sendings_in.ensures) fill.fill-made.ensures
