-- `chosen::Turn::next_free` meets its contract: no place from k up to j is free.
use borrow.Author.Count.{below_more}
use native.Mathlib.Omega.{arith}
use Rattle.chosen.proofs.Turn.next_free.Goals as goal

pub loop-j-init : goal.loop-j-init
loop-j-init c = λ i h from. absurd (omega arith)

pub returns-then-free-j : goal.returns-then-free-j
returns-then-free-j c =
    let l = c.loop-j in
    (omega arith, record { onward = omega arith; within = omega arith; passed = l.invariant; found = λ _. c.if-free-j.true })

pub loop-j-preserved : goal.loop-j-preserved
loop-j-preserved c =
    let l = c.loop-j in
    below_more _ l.j l.invariant (λ _. c.if-free-j.false)

pub returns : goal.returns
returns c =
    let l = c.loop-j in
    record { onward = omega arith; within = omega arith; passed = λ i h from. l.invariant i (omega arith) from; found = λ h. absurd (omega arith) }
