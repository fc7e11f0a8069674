-- `listing::list` meets its contract: a short buffer stays as it is, a refusal has its line, and the lines of a plan's slots stand behind line one.
use mathlib.Core.Path.{◌≡◌, refl, ap, ◌∙◌}
use mathlib.Core.List.{List}
use Prim.Native.Nat.{ℕ}
use lib.ListN.{length, replicate, length-replicate}
use Rattle.meaning.specs.Plan.{any_plan}
use Rattle.meaning.specs.declared.Outcome.{Outcome}
use Rattle.meaning.specs.Lister.{refusal_line}
use Rattle.lines.specs.Line.{line_length, line_in}
use Rattle.laws.proofs.Refused.{some-number}
use Rattle.listing.proofs.Listed.{list-short, list-refused, sheet-passed, head-within, lines-room, lines_end, list-planned}
use native.Mathlib.Omega.{arith}
use Rattle.listing.proofs.list.Goals as goal

-- the buffer for the plan, as it is made
abbrev blank : List ℕ
blank = replicate any_plan 0

long : length blank ≡ any_plan
long = length-replicate {A = ℕ} any_plan 0

pub returns-then-out-lt-ANY_TEXT : goal.returns-then-out-lt-ANY_TEXT
returns-then-out-lt-ANY_TEXT c =
    let a = c.args in
    let all = list-short a.sheet.now a.out.now c.if-out-lt-ANY_TEXT.true in
    record { part = all.0; answer = all.1.0; buffer = all.1.1 }

pub returns-in-Err : goal.returns-in-Err
returns-in-Err c =
    let a = c.args in
    let line = c.refusal_line in
    let all = list-refused a.sheet.now blank long _ c.in-Err.ensures.answer (some-number c.in-Err.refusal) a.out.now c.if-out-lt-ANY_TEXT.false _ _
    (line.ensures.answer ∙ ap (λ (o : Outcome). line_length a.out.now (refusal_line o)) c.from.ensures)
    (line.ensures.buffer ∙ ap (λ (o : Outcome). line_in a.out.now (refusal_line o)) c.from.ensures) in
    record { part = all.0; answer = all.1.0; buffer = all.1.1 }

pub first-head-requires : goal.first-head-requires
first-head-requires c =
    let a = c.args in
    let by = c.in-Ok in
    sheet-passed a.sheet.now blank long _ by.ensures.answer refl

pub slice_bounds-slot_lines-count : goal.slice_bounds-slot_lines-count
slice_bounds-slot_lines-count c =
    let a = c.args in
    let by = c.in-Ok in
    head-within a.sheet.now blank long _ by.ensures.answer refl _ by.ensures.buffer a.out.now c.if-out-lt-ANY_TEXT.false _ _
    c.first-head.ensures.answer c.first-head.ensures.buffer

pub slice_bounds-slot_lines-start : goal.slice_bounds-slot_lines-start
slice_bounds-slot_lines-start c =
    let a = c.args in
    let by = c.in-Ok in
    head-within a.sheet.now blank long _ by.ensures.answer refl _ by.ensures.buffer a.out.now c.if-out-lt-ANY_TEXT.false _ _
    c.first-head.ensures.answer c.first-head.ensures.buffer

pub slot_lines-requires : goal.slot_lines-requires
slot_lines-requires c =
    let a = c.args in
    let by = c.in-Ok in
    lines-room a.sheet.now blank long _ by.ensures.answer refl _ by.ensures.buffer a.out.now c.if-out-lt-ANY_TEXT.false _ _
    c.first-head.ensures.answer c.first-head.ensures.buffer

pub overflow_add-result : goal.overflow_add-result
overflow_add-result c =
    let a = c.args in
    let by = c.in-Ok in
    let more = c.slot_lines in
    let end =
    lines_end a.sheet.now blank long _ by.ensures.answer refl _ by.ensures.buffer a.out.now c.if-out-lt-ANY_TEXT.false _ _
    c.first-head.ensures.answer c.first-head.ensures.buffer more.result more.ensures.answer
    in
    omega (arith, end)

pub returns : goal.returns
returns c =
    let a = c.args in
    let by = c.in-Ok in
    let more = c.slot_lines in
    let all = list-planned a.sheet.now blank long _ by.ensures.answer refl _ by.ensures.buffer a.out.now c.if-out-lt-ANY_TEXT.false _ _
    c.first-head.ensures.answer c.first-head.ensures.buffer _ _ more.ensures.answer more.ensures.buffer in
    record { part = all.0; answer = all.1.0; buffer = all.1.1 }
