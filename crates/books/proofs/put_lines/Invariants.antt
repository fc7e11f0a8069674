-- `books::put_lines` stays within its book and its text, whatever the book's counts say: what is written never passes the text's end.
use Rattle.std.proofs.Common.{length, ◌≡◌, ◌≤◌}
use Rattle.books.proofs.put_lines.Given as goal

abbrev pub invariant-loop-probe : goal.invariant-loop-probe
invariant-loop-probe l = (length l.text ≡ length l.initial.text) × (l.end ≤ length l.text)
