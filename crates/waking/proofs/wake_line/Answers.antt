-- `waking::wake_line` meets its contract: the parts of the line are put one behind the other, where the buffer has room for all of them.
use mathlib.Core.Path.{◌≡◌, sym, ◌∙◌, subst}
use mathlib.Core.List.{List}
use Prim.Native.Nat.{ℕ, ◌+◌, ◌≤◌}
use lib.ListN.{length}
use Rattle.meaning.specs.Sheet.{two_at}
use Rattle.meaning.specs.Lister.{text}
use Rattle.meaning.specs.Book.{list_at, wake_line}
use Rattle.lines.proofs.Lined.{Answered, answered-short}
use Rattle.lines.proofs.Fitting.{put-behind}
use Rattle.waking.proofs.WakeWords.{slot_of, slots-long, wake-short, wake-room, wake-answered}
use Rattle.std.proofs.Common.{rules}
use native.Mathlib.Omega.{arith}
use Rattle.waking.proofs.wake_line.Goals as goal

-- the line, if the second list begins at a place
abbrev line : ℕ → List ℕ → ℕ → List ℕ
line v entry at = wake_line v (list_at entry 0) (list_at entry at)

pub overflow_add-need : goal.overflow_add-need
overflow_add-need c =
    let entry = c.args.entry.now in
    omega (
      arith,
      slots-long (slot_of entry 0) (two_at entry 0),
      c.type_inv.entry 0,
      c.type_inv.entry 1,
      c.digits.ensures.few,
      c.slots_length.ensures,
    )

pub overflow_add-need-2 : goal.overflow_add-need-2
overflow_add-need-2 c =
    let entry = c.args.entry.now in
    let second = c.behind_list-second.result in
    omega (
      arith,
      slots-long (slot_of entry 0) (two_at entry 0),
      c.type_inv.entry 0,
      c.type_inv.entry 1,
      slots-long (slot_of entry second) (two_at entry second),
      c.type_inv.entry second,
      c.type_inv.entry (second + 1),
      c.digits.ensures.few,
      c.slots_length.ensures,
      c.slots_length-2.ensures,
    )

pub returns-then-out-need : goal.returns-then-out-need
returns-then-out-need c =
    let v = c.args.probe.0 in
    let entry = c.args.entry.now in
    let out = c.args.out.now in
    let all = subst (λ (at : ℕ). Answered out (line v entry at) out 0) c.behind_list-second.ensures.0
    (answered-short out (line v entry c.behind_list-second.result)
    (wake-short _ _ _ _ _ _ _ c.digits.ensures.count c.slots_length.ensures c.slots_length-2.ensures c.if-out-need.true)) in
    record { part = all.0; answer = all.1.0; buffer = all.1.1 }

pub returns : goal.returns
unfolding text
returns c =
    let v = c.args.probe.0 in
    let entry = c.args.entry.now in
    let out = c.args.out.now in
    let room : length (line v entry c.behind_list-second.result) ≤ length out =
    wake-room _ _ _ _ _ _ _ c.digits.ensures.count c.slots_length.ensures c.slots_length-2.ensures c.if-out-need.false in
    let to-sends = put-behind c.counted.ensures.said c.words.ensures.said in
    let to-listens = put-behind (put-behind to-sends c.say_slots.ensures.said) c.words-2.ensures.said in
    let whole = put-behind (put-behind to-listens c.say_slots-2.ensures.said) c.words-3.ensures.said in
    let all = subst (λ (at : ℕ). Answered out (line v entry at) c.words-3.new.self.out.now c.words-3.new.self.end)
    c.behind_list-second.ensures.0
    (wake-answered _ _ _ room whole) in
    let same : c.words-3.new.self.out.now ≡ _ = search rules in
    record { part = rw (sym same) all.0; answer = all.1.0; buffer = sym same ∙ all.1.1 }
