-- `sheet::by_node` meets its contract: the table is filled from the front, as far as node v.
use mathlib.Core.Path.{◌≡◌}
use Prim.Native.Nat.{◌≤◌, ◌-◌}
use lib.ListN.{length, take}
use Rattle.meaning.specs.Words.{tab}
use Rattle.sheet.specs.Tree.{record_byte}
use Rattle.sheet.proofs.by_node.Given as goal

abbrev pub invariant-loop-v : goal.invariant-loop-v
invariant-loop-v l = (l.v ≤ 65) × ((length l.table ≡ 65) × (take l.v l.table ≡ tab l.v (record_byte l.records l.p l.side)))

abbrev pub decreases-loop-v : goal.decreases-loop-v
decreases-loop-v l = 65 - l.v
