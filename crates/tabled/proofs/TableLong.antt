-- How long a table can be: line by line, each part by part, and of each of 63 vertices no more than a space and five digits.
use mathlib.Core.Path.{refl}
use mathlib.Core.Bool.{Bool, true, false, cond}
use mathlib.Core.List.{List, []}
use Prim.Native.Nat.{ℕ, zero, suc, ◌+◌, ◌*◌, ◌≤◌}
use native.Mathlib.Nat.{zero-mul, suc-mul}
use native.Mathlib.Omega.{arith}
use lib.Dec.{ltb}
use lib.ListN.{length, get_or, length-append}
use Rattle.meaning.specs.Lister.{text, said}
use Rattle.lines.proofs.PartsLong.{Within, counted, both, numbered, digits_long}
use Rattle.graph.specs.Table.{edges}
use Rattle.graph.specs.Drawing.{texts}
use Rattle.tabled.specs.Tabled.{head_line, joins, degree_in, joined_text, vertex_line, vertex_text, shown_table}

joined-long : (is : Bool) (u : ℕ) → Within (cond is (said "" u) []) 6
unfolding text
joined-long true u = numbered {a = 0} "" u (counted refl)
joined-long false u = counted refl

texts-long : (most n : ℕ) (f : ℕ → List ℕ) → ((k : ℕ) → Within (f k) most) → Within (texts n f) (n * most)
unfolding texts
texts-long most zero f each = rw (zero-mul most) (counted refl)
texts-long most (suc n) f each =
    record { short = omega (arith, length-append (texts n f) (f n), (texts-long most n f each).short, (each n).short, suc-mul n most) }

head-long : (vertices edges : ℕ) → Within (head_line vertices edges) 27
unfolding text head_line
head-long vertices edges =
    both (both (numbered {a = 8} "vertices" vertices (counted refl)) (numbered {a = 6} " edges" edges (counted refl)))
    (counted {bytes = text "\n"} {most = 1} refl)

vertex-long : (v : ℕ) (row : List Bool) → Within (vertex_line v row) 398
unfolding text vertex_line
vertex-long v row =
    both
    (both
    (both (both (digits_long v) (numbered {a = 7} " degree" (degree_in row) (counted refl))) (counted {bytes = text ":"} {most = 1} refl))
    (texts-long 6 63 (joined_text row) (λ k. joined-long (joins row k) (k + 1))))
    (counted {bytes = text "\n"} {most = 1} refl)

shown-long : (is : Bool) (v : ℕ) (row : List Bool) → Within (cond is (vertex_line v row) []) 398
shown-long true v row = vertex-long v row
shown-long false v row = counted refl

table-long : (vertices : ℕ) (table : List (List Bool)) → Within (shown_table vertices table) 25101
unfolding shown_table
table-long vertices table =
    both (head-long vertices (edges table))
    (texts-long 398 63 (vertex_text vertices table) (λ k. shown-long (ltb k vertices) (k + 1) (get_or table (k + 2) [])))

-- so any table fits into 25,600 bytes
pub table-most : (vertices : ℕ) (table : List (List Bool)) → length (shown_table vertices table) ≤ 25600
table-most vertices table = omega (arith, (table-long vertices table).short)
