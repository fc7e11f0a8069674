-- `plan::Way::turn` meets its contract: each arm writes the slot of what may be sent in its mode; with no byte nobody sends, and otherwise its senders can.
use mathlib.Core.Path.{◌≡◌, refl, sym, ap, ap₂, ◌∙◌}
use mathlib.Core.List.{List}
use Prim.Native.Nat.{ℕ, ◌≤◌}
use Rattle.meaning.specs.declared.Mode.{Mode}
use Rattle.meaning.specs.declared.Mode.TheVariants.{Packets, Merged}
use Rattle.meaning.specs.Words.{by_node}
use Rattle.meaning.specs.Rounds.{may_in}
use Rattle.laws.specs.Few.{at_most63}
use Rattle.laws.proofs.Few.{as_many}
use Rattle.laws.proofs.Modes.{may-holds}
use Rattle.slot.proofs.Within.{moved-within}
use Rattle.chosen.specs.TurnSlot.{turn_by, turn_length, turn_in}
use Rattle.chosen.proofs.SlotWritten.{Wrote}
use Rattle.plan.specs.declared.Way as code
use Rattle.plan.specs.TurnByTurn.{goes_by, turn_on}
use Rattle.plan.proofs.ColourTurn.{slot-ends, turned_none, may-move, turned-slot}
use Rattle.plan.proofs.Way.turn.Goals as goal
use Rattle.plan.proofs.Way.turn.Goals.{in-Packets, in-Merged}

-- what an arm has written of the list that is lent, where that is what may be sent in the mode, and at most 63 probes are all counted
module _ (by : code.Way) (its : Mode) (s : ℕ) (held may rest : List ℕ) where
  in-mode : by.mode ≡ its → by.probes ≤ 63 → may ≡ may_in its (at_most63 by.probes) (by_node by.parents.now) held → {rest' by_arm : List ℕ} {bytes many : ℕ}
      → Wrote (turn_by (at_most63 by.probes) by.table.now by.own.now s may) rest by_arm many → rest' ≡ by_arm → bytes ≡ many
      → Wrote (turn_on by s held) rest rest' bytes
  in-mode e few lent w left took = (took ∙ w.0 ∙ ap (turn_length rest) same, left ∙ w.1 ∙ ap (turn_in rest) same)
    where
      same : turn_by (at_most63 by.probes) by.table.now by.own.now s may ≡ turn_on by s held
      same =
          ap (turn_by (at_most63 by.probes) by.table.now by.own.now s) lent
          ∙ ap₂ (λ (n : ℕ) (m : Mode). turn_by n by.table.now by.own.now s (may_in m n (by_node by.parents.now) held)) (as_many by.probes few) (sym e)

pub returns-then-bytes-eq0 : goal.returns-then-bytes-eq0
returns-then-bytes-eq0 c =
    let a = c.args in
    let way = a.self.now in
    let wrote : Wrote (turn_on way a.s.0 a.held.now) a.rest.now c.match-self.rest c.match-self.bytes =
    elim c.match-self.branch [
      | in-Packets w ↦ in-mode way Packets a.s.0 a.held.now a.held.now a.rest.now w.in-Packets.is c.requires.small refl (w.write_slot-bytes.ensures.answer, w.write_slot-bytes.ensures.rest) w.rest-is w.bytes-is
      | in-Merged w ↦ in-mode way Merged a.s.0 a.held.now w.ready-ready.result a.rest.now w.in-Merged.is c.requires.small w.ready-ready.ensures (w.write_slot-bytes-in-Merged.ensures.answer, w.write_slot-bytes-in-Merged.ensures.rest) w.rest-is w.bytes-is
    ]
    in
    let goes = goes_by way in
    let has = may-holds way.mode way.probes (by_node way.parents.now) a.held.now in
    turned_none way.probes goes a.held.now a.rest.now c.requires _ has way.table.now way.own.now a.s.0 _ _ wrote c.if-bytes-eq0.true

pub slice_bounds-send-end : goal.slice_bounds-send-end
slice_bounds-send-end c =
    let a = c.args in
    let way = a.self.now in
    let wrote : Wrote (turn_on way a.s.0 a.held.now) a.rest.now c.match-self.rest c.match-self.bytes =
    elim c.match-self.branch [
      | in-Packets w ↦ in-mode way Packets a.s.0 a.held.now a.held.now a.rest.now w.in-Packets.is c.requires.small refl (w.write_slot-bytes.ensures.answer, w.write_slot-bytes.ensures.rest) w.rest-is w.bytes-is
      | in-Merged w ↦ in-mode way Merged a.s.0 a.held.now w.ready-ready.result a.rest.now w.in-Merged.is c.requires.small w.ready-ready.ensures (w.write_slot-bytes-in-Merged.ensures.answer, w.write_slot-bytes-in-Merged.ensures.rest) w.rest-is w.bytes-is
    ]
    in
    let goes = goes_by way in
    let has = may-holds way.mode way.probes (by_node way.parents.now) a.held.now in
    slot-ends way.probes goes a.held.now a.rest.now c.requires _ has way.table.now way.own.now a.s.0 _ _ wrote

pub returns : goal.returns
returns c =
    let a = c.args in
    let way = a.self.now in
    let wrote : Wrote (turn_on way a.s.0 a.held.now) a.rest.now c.match-self.rest c.match-self.bytes =
    elim c.match-self.branch [
      | in-Packets w ↦ in-mode way Packets a.s.0 a.held.now a.held.now a.rest.now w.in-Packets.is c.requires.small refl (w.write_slot-bytes.ensures.answer, w.write_slot-bytes.ensures.rest) w.rest-is w.bytes-is
      | in-Merged w ↦ in-mode way Merged a.s.0 a.held.now w.ready-ready.result a.rest.now w.in-Merged.is c.requires.small w.ready-ready.ensures (w.write_slot-bytes-in-Merged.ensures.answer, w.write_slot-bytes-in-Merged.ensures.rest) w.rest-is w.bytes-is
    ]
    in
    let goes = goes_by way in
    let has = may-holds way.mode way.probes (by_node way.parents.now) a.held.now in
    let sends = may-move way.probes goes a.held.now a.rest.now c.requires _ has way.table.now way.own.now a.s.0 _ _ wrote c.if-bytes-eq0.false in
    turned-slot way.probes goes a.held.now a.rest.now c.requires _ has way.table.now way.own.now a.s.0 _ _ wrote c.if-bytes-eq0.false _
    (c.send.ensures ∙ moved-within _ _ _ c.requires.long c.requires.few sends.0 sends.1)
