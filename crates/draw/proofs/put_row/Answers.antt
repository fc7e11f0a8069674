-- `draw::put_row` meets its contract. The invariant: what stands before place y of the row is put.
use mathlib.Core.Path.{◌≡◌, refl, ap₂}
use mathlib.Core.Bool.{cond, ◌&&◌}
use mathlib.Core.List.{List, []}
use Prim.Native.Nat.{ℕ, ◌+◌, ◌-◌}
use lib.Dec.{ltb}
use Rattle.meaning.specs.Conflict.{entry}
use Rattle.lines.specs.Fits.{Fits}
use Rattle.lines.proofs.Fitting.{put_same}
use Rattle.graph.specs.Table.{Table}
use Rattle.graph.specs.Drawing.{texts, edge_line, edge_text, row_text}
use Rattle.graph.proofs.TextsPut.{texts-start, texts-next, texts-all}
use native.Mathlib.Omega.{arith}
use borrow.Author.Rules.{rules}
use Rattle.draw.proofs.put_row.Goals as goal

-- one place of a row more
row_next : {l mid after : List ℕ} {at next end : ℕ} (table : Table) (x y a b : ℕ) → a ≡ x - 1 → b ≡ y - 1
    → Fits l at (texts y (edge_text table x)) mid next → Fits mid next (cond (ltb x y && entry table x y) (edge_line a b) []) after end
    → Fits l at (texts (y + 1) (edge_text table x)) after end
row_next table x y a b smaller larger before edge =
    texts-next y (edge_text table x) before
    (put_same (ap₂ (λ (v w : ℕ). cond (ltb x y && entry table x y) (edge_line v w) []) smaller larger) edge)

pub loop-y-init : goal.loop-y-init
loop-y-init c =
    (refl, c.vertex-a.ensures, texts-start _ _ _)

pub loop-y-preserved : goal.loop-y-preserved
loop-y-preserved c =
    let turn = c.loop-y in
    let next = row_next c.args.table.now c.args.x turn.y _ _ turn.invariant.1 c.vertex.ensures turn.invariant.2 c.put_edge-end.ensures in
    (search rules, turn.invariant.1, next)

pub returns : goal.returns
unfolding row_text
returns c =
    let done = c.loop-y in
    texts-all _ (omega arith) done.invariant.2
