-- `lines::put_text` meets its contract. The invariant: the first i bytes are put.
use mathlib.Core.Path.{◌≡◌}
use Prim.Native.Nat.{◌+◌}
use lib.ListN.{length, take}
use Rattle.lines.specs.Line.{Put}
use Rattle.lines.proofs.put_text.Given as goal

abbrev pub invariant-loop-i : goal.invariant-loop-i
invariant-loop-i l = (length l.out ≡ length l.initial.out) × Put l.initial.out l.at (take l.i l.bytes) l.out (l.at + l.i)
