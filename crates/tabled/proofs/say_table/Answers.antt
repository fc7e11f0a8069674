-- `tabled::say_table` meets its contract. The invariant: the lines of the vertices before place k are said.
use mathlib.Core.Path.{◌≡◌, sym, ap}
use Prim.Native.Nat.{min}
use native.Mathlib.Omega.{arith}
use Rattle.lines.proofs.Saying.{say-more, say_same}
use Rattle.tabled.specs.Tabled.{head_line, vertex_text, shown_table}
use Rattle.tabled.proofs.TextsSaid.{texts-start, texts-next, vertex-is, vertices-all}
use Rattle.tabled.proofs.say_table.Goals as goal

pub loop-k-init : goal.loop-k-init
loop-k-init c = texts-start (vertex_text c.args.vertices c.args.table.now) c.say_head.ensures

pub loop-k-preserved : goal.loop-k-preserved
loop-k-preserved c =
    let turn = c.loop-k in
    let a = c.args in
    texts-next (vertex_text a.vertices a.table.now) turn.k turn.invariant
    (say_same (sym (vertex-is a.vertices turn.k a.table.now (omega (arith, c.loop-k-test.true, c.min-k-end.ensures)))) c.say_vertex.ensures)

pub returns : goal.returns
unfolding shown_table
returns c =
    let a = c.args in
    let done = c.loop-k in
    let all : done.k ≡ min a.vertices 63 = omega (arith, c.loop-k-test.false, c.min-k-end.ensures) in
    say-more (say_same (ap (head_line a.vertices) c.edges.ensures) c.say_head.ensures)
    (say_same (vertices-all a.vertices done.k a.table.now all) done.invariant)
