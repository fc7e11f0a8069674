-- `draw::copy_text` meets its contract: the text is made in a line of its own, which has room for any, and copied from there as a whole.
use mathlib.Core.Path.{ap, ◌∙◌, refl}
use mathlib.Core.Bool.{Bool, cond}
use Prim.Native.Nat.{◌≤◌}
use native.Mathlib.Omega.{arith}
use borrow.Author.Tests.{le-leb}
use lib.ListN.{length}
use Rattle.meaning.specs.Plan.{front}
use Rattle.graph.specs.Drawing.{table_text}
use Rattle.lines.proofs.OwnLine.{line-end, line-counts, line-ends, answered}
use Rattle.draw.proofs.copy_text.Goals as goal

pub returns-then-out-n : goal.returns-then-out-n
returns-then-out-n c = (omega (arith, c.if-out-n.true, line-ends c.requires c.put_table-n.ensures), refl)

pub slice_bounds-text-end : goal.slice_bounds-text-end
slice_bounds-text-end c = line-end c.requires c.put_table-n.ensures

pub slice_bounds-put_words-end : goal.slice_bounds-put_words-end
slice_bounds-put_words-end c = line-counts c.requires c.put_table-n.ensures

pub returns : goal.returns
returns c =
    let text = table_text c.args.vertices c.args.table.now in
    let before = c.args.out.now in
    let room : length text ≤ length before = omega (arith, c.if-out-n.false, line-ends c.requires c.put_table-n.ensures) in
    let fits = le-leb (length text) (length before) room in
    let says = answered c.requires c.put_table-n.ensures c.put_words.ensures in (
      room,
      (
        says.0.0,
        (
          says.1.0 ∙ ap (λ (b : Bool). cond b (length text) 0) fits,
          says.1.1 ∙ ap (λ (b : Bool). cond b (front before text) before) fits,
        ),
      ),
    )
