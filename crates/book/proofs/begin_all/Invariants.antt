-- `book::begin_all` meets its contract. The invariant: both lists of the first k probes begin.
use Rattle.std.proofs.Common.{◌≡◌}
use Rattle.meaning.specs.Words.{by_node}
use Rattle.book.specs.Layout.{all_sends, all_hears, all_begun}
use Rattle.book.proofs.begin_all.Given as goal

abbrev pub invariant-loop-k : goal.invariant-loop-k
invariant-loop-k l = l.book ≡ all_begun l.k (by_node (all_sends l.lists)) (by_node (all_hears l.lists)) l.initial.book
