-- The whole text for a sheet, by the planner's answer: a refusal's line, or line one and behind it the lines of the slots that stand in the plan.
use mathlib.Core.Path.{◌≡◌, refl, sym, ap, ap₂, ◌∙◌, subst}
use mathlib.Core.Bool.{Bool, true, cond}
use mathlib.Core.List.{List, ◌++◌}
use mathlib.Core.Logic.{◌≢◌}
use Prim.Native.Nat.{ℕ, ◌+◌, ◌-◌, ◌≤◌, ◌<◌}
use native.Mathlib.Omega.{arith}
use borrow.Author.Tests.{eq-eqb, ne_eqb, le-leb, lt-leb}
use borrow.Rule.Slice.PartMut.{put_mid}
use lib.ListN.{length, take, drop, length-append, length-drop}
use lib.Seq.{length-take-le}
use Rattle.meaning.specs.declared.Mode.TheVariants.{Packets}
use Rattle.meaning.specs.declared.Planned.{Planned}
use Rattle.meaning.specs.Sheet.{hops, all_packets, heaviest, least_slots}
use Rattle.meaning.specs.Plan.{any_plan, front, slots_from, room_for}
use Rattle.meaning.specs.Rounds.{by_probe, slots_of}
use Rattle.meaning.specs.Answer.{is_accepted, sheet_test, plan_test, PlanMade, plan_made}
use Rattle.meaning.specs.Legal.{held_first, Runs}
use Rattle.meaning.specs.Lister.{any_text, first_line, slot_lines, refusal_line, list, numbers_line}
use Rattle.laws.proofs.PlanMade.{whole, makes, tests-accept, planned-sheet, planned-room}
use Rattle.laws.proofs.Own.{by-probe-plan}
use Rattle.lines.specs.Line.{line_length, line_in}
use Rattle.laws.proofs.Lists.{length_front}
use Rattle.plan.proofs.TurnByTurn.{part-from}
use Rattle.listing.specs.Listed.{listed_length, listed_in}
use Rattle.listing.proofs.SlotsRead.{slots_read, plan-same}
use Rattle.listing.proofs.LineByLine.{line-whole, behind-front}
use Rattle.listing.proofs.Measured.{first-most, refusal-most, slots-most}

-- what is answered, of which the buffer has as many bytes, and the buffer afterwards
abbrev pub Answers : List ℕ → List ℕ → List ℕ → ℕ → Type 0
Answers s out out' r = ((r ≤ length out') × (r ≡ length (take r out'))) × ((r ≡ listed_length s out) × (out' ≡ listed_in s out))

text-part : (out out' text : List ℕ) (r : ℕ) → r ≡ length text → out' ≡ front out text → (r ≤ length out') × (r ≡ length (take r out'))
text-part out out' text r e is =
    let fits : r ≤ length out' = omega (arith, e, ap length is ∙ length-append text (drop (length text) out)) in
    (fits, sym (length-take-le r out' fits))

-- a buffer that is too short
pub list-short : (s out : List ℕ) → length out < any_text → Answers s out out 0
list-short s out h =
    let short = lt-leb any_text (length out) h in
    ((omega arith, refl), (ap (λ (b : Bool). cond b (length (list s)) 0) (sym short), ap (λ (b : Bool). cond b (front out (list s)) out) (sym short)))

-- a buffer with room, and the text in it
list-whole : (s out out' : List ℕ) (r : ℕ) → any_text ≤ length out → r ≡ length (list s) → out' ≡ front out (list s) → Answers s out out' r
list-whole s out out' r h answer buffer =
    let room = le-leb any_text (length out) h in (
      text-part out out' (list s) r answer buffer,
      (
        answer ∙ ap (λ (b : Bool). cond b (length (list s)) 0) (sym room),
        buffer ∙ ap (λ (b : Bool). cond b (front out (list s)) out) (sym room),
      ),
    )

module _ (s : List ℕ) (buf : List ℕ) (long : length buf ≡ any_plan) (planned : Planned) (is : planned ≡ (plan_made by_probe s (length buf)).answer) where
  abbrev slots : List (List ℕ)
  slots = slots_of s (by_probe s)

  abbrev text_of : Planned → List ℕ
  text_of p = cond (is_accepted p.outcome) (first_line s p ++ slot_lines 0 slots) (refusal_line p.outcome)

  listed : list s ≡ text_of planned
  unfolding list
  listed = ap text_of (sym (is ∙ ap (λ (room : ℕ). (plan_made by_probe s room).answer) long))

  -- a refusal
  module _ (refused : planned.outcome.number ≢ 0) (out : List ℕ) (room : any_text ≤ length out) where
    its-line : list s ≡ refusal_line planned.outcome
    its-line =
        listed
        ∙ ap (λ (b : Bool). cond b (first_line s planned ++ slot_lines 0 slots) (refusal_line planned.outcome)) (ne_eqb planned.outcome.number 0 refused)

    pub list-refused : (out' : List ℕ) (r : ℕ) → r ≡ line_length out (refusal_line planned.outcome) → out' ≡ line_in out (refusal_line planned.outcome)
        → Answers s out out' r
    list-refused out' r answer buffer =
        let written = line-whole out (refusal_line planned.outcome) (omega (arith, room, refusal-most planned.outcome.number planned.outcome.place)) in
        list-whole s out out' r room (answer ∙ written.0 ∙ ap length (sym its-line)) (buffer ∙ written.1 ∙ ap (front out) (sym its-line))

  -- a plan
  module _ (passed : planned.outcome.number ≡ 0) where
    plans : is_accepted (plan_made by_probe s (length buf)).answer.outcome ≡ true
    plans = ap (λ (p : Planned). is_accepted p.outcome) (sym is) ∙ eq-eqb planned.outcome.number 0 passed

    made : plan_made by_probe s (length buf) ≡ whole Packets by_probe s (length buf) (plan_test s (length buf) slots)
    made = makes Packets by_probe s (length buf) true (tests-accept Packets by_probe s (length buf) plans)

    pub sheet-passed : is_accepted (sheet_test s) ≡ true
    sheet-passed = planned-sheet Packets by_probe s (length buf) plans

    room-passed : room_for (hops s) ≤ length buf
    room-passed = planned-room Packets by_probe s (length buf) plans

    counted : planned.slots ≡ length slots
    counted = ap (λ (p : Planned). p.slots) is ∙ ap (λ (m : PlanMade). m.answer.slots) made

    runs : Runs s (held_first s) slots
    runs =
        let good = (by-probe-plan s sheet-passed).good in
        subst (λ (l : List (List ℕ)). Runs s (held_first s) l) (sym (plan-same slots good.slots good.written)) good.runs

    -- ten bytes a hop
    lines-most : length (slot_lines 0 slots) ≤ 302400
    lines-most =
        let own = by-probe-plan s sheet-passed in
        omega (arith, slots-most s sheet-passed slots (held_first s) 0 runs, own.few, own.room, room-passed, long)

    module _ (buf' : List ℕ) (planned-in : buf' ≡ front buf (plan_made by_probe s (length buf)).written) where
      read : slots_from buf' 2 planned.slots ≡ slots
      read =
          ap₂ (λ (l : List ℕ) (k : ℕ). slots_from l 2 k) (planned-in ∙ ap (λ (m : PlanMade). front buf m.written) made) counted
          ∙ slots_read slots buf

      module _ (out : List ℕ) (room : any_text ≤ length out) (head : ℕ) (out₁ : List ℕ) where
        abbrev line : List ℕ
        line = numbers_line planned.colours planned.slots (all_packets s) (heaviest s) (least_slots s)

        abbrev lines : List ℕ
        lines = slot_lines 0 (slots_from buf' 2 planned.slots)

        module _ (answer : head ≡ line_length out line) (buffer : out₁ ≡ line_in out line) where
          short : length line ≤ 67
          short = first-most planned.colours planned.slots (all_packets s) (heaviest s) (least_slots s)

          written : (line_length out line ≡ length line) × (line_in out line ≡ front out line)
          written = line-whole out line (omega (arith, room, short))

          head-is : head ≡ length line
          head-is = answer ∙ written.0

          out-long : length out₁ ≡ length out
          out-long = ap length (buffer ∙ written.1) ∙ length_front out line (omega (arith, room, short))

          pub head-within : head ≤ length out₁
          head-within = omega (arith, head-is, short, out-long, room)

          few : length lines ≤ 302400
          few = omega (arith, lines-most, ap (λ (l : List (List ℕ)). length (slot_lines 0 l)) read)

          pub lines-room : length lines ≤ length (take (length out₁ - head) (drop head out₁))
          lines-room = omega (arith, few, room, out-long, head-is, short, ap length (part-from out₁ head) ∙ length-drop head out₁)

          pub lines_end : (more : ℕ) → more ≡ length lines → head + more ≤ any_text
          lines_end more e = omega (arith, few, head-is, short)

          its-text : list s ≡ line ++ lines
          its-text =
              listed
              ∙ ap (λ (b : Bool). cond b (first_line s planned ++ slot_lines 0 slots) (refusal_line planned.outcome)) (eq-eqb planned.outcome.number 0 passed)
              ∙ ap (λ (ls : List (List ℕ)). first_line s planned ++ slot_lines 0 ls) (sym read)

          pub list-planned : (part : List ℕ) (more : ℕ) → more ≡ length lines → part ≡ front (take (length out₁ - head) (drop head out₁)) lines
              → Answers s out (put_mid head (length out₁ - head) out₁ part) (head + more)
          list-planned part more many put =
              list-whole s out (put_mid head (length out₁ - head) out₁ part) (head + more) room
              (ap₂ ◌+◌ head-is many ∙ sym (length-append line lines) ∙ ap length (sym its-text))
              (behind-front out line lines head out₁ part head-is (omega (arith, room, short)) (buffer ∙ written.1) put ∙ ap (front out) (sym its-text))
