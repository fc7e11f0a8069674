-- `tabled::say_vertex` meets its contract. The invariant: what is joined before place k is said.
use mathlib.Core.Path.{ap, sym}
use mathlib.Core.Bool.{Bool, cond}
use mathlib.Core.List.{List, []}
use Prim.Native.Nat.{ℕ, ◌+◌}
use native.Mathlib.Omega.{arith}
use Rattle.meaning.specs.Lister.{text, said}
use Rattle.lines.proofs.Saying.{say-more, say_same}
use Rattle.graph.specs.Drawing.{texts}
use Rattle.tabled.specs.Tabled.{joined_text, vertex_line}
use Rattle.tabled.proofs.TextsSaid.{texts-start, texts-next, texts-skip}
use Rattle.tabled.proofs.say_vertex.Goals as goal
use Rattle.tabled.proofs.say_vertex.Goals.{then-row-k, else-row-k}

pub loop-k-init : goal.loop-k-init
loop-k-init c = texts-start (joined_text c.args.row.now) c.words.ensures

pub loop-k-preserved : goal.loop-k-preserved
unfolding text
loop-k-preserved c =
    let turn = c.loop-k in
    let joined = joined_text c.args.row.now in
    let line : Bool → List ℕ = λ b. cond b (said "" (turn.k + 1)) [] in
    elim c.if-row-k.branch [
      | then-row-k w ↦ rw w.text-is (texts-next joined turn.k turn.invariant (say_same (ap line (sym w.if-row-k.true)) w.counted-then-row-k.ensures))
      | else-row-k w ↦ rw w.text-is (texts-skip joined turn.k (ap line w.if-row-k.false) turn.invariant)
    ]

pub returns : goal.returns
unfolding text vertex_line
returns c =
    let degree = say_same (ap (said " degree") c.degree.ensures) c.counted-2.ensures in
    let head = say-more (say-more c.counted.ensures degree) c.words.ensures in
    let joined = say_same (ap (λ (k : ℕ). texts k (joined_text c.args.row.now)) (omega arith)) c.loop-k.invariant in
    say-more (say-more head joined) c.words-2.ensures
