-- `sending::send` meets its contract: packets go by the parents that are lent, and readings by a list of parents that are all the gateway.
use mathlib.Core.Path.{◌≡◌, sym, ap, ◌∙◌}
use mathlib.Core.List.{List}
use Prim.Native.Nat.{ℕ}
use Rattle.meaning.specs.declared.Mode.{Mode}
use Rattle.meaning.specs.declared.Mode.TheVariants.{Packets, Merged}
use Rattle.meaning.specs.Words.{by_node}
use Rattle.meaning.specs.Rounds.{goes_in}
use Rattle.slot.specs.Move.{moved_within}
use Rattle.sending.proofs.ToGateway.{to-gateway}
use Rattle.sending.proofs.send.Goals as goal

-- what is moved depends on the mode alone
by_mode : (mode its : Mode) (parent : ℕ → ℕ) (slot held : List ℕ) → mode ≡ its → moved_within (goes_in its parent) slot held ≡ moved_within (goes_in mode parent) slot held
by_mode mode its parent slot held e = ap (λ (m : Mode). moved_within (goes_in m parent) slot held) (sym e)

pub returns-in-Packets : goal.returns-in-Packets
returns-in-Packets c =
    let a = c.args in
    c.move_packets.ensures ∙ by_mode a.mode Packets (by_node a.parents.now) a.slot.now a.held.now c.in-Packets.is

pub returns-in-Merged : goal.returns-in-Merged
returns-in-Merged c =
    let a = c.args in
    c.move_packets-in-Merged.ensures
    ∙ to-gateway a.slot.now a.held.now
    ∙ by_mode a.mode Merged (by_node a.parents.now) a.slot.now a.held.now c.in-Merged.is
