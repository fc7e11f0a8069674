-- `book::laid_out` meets its contract. The invariant: the lists of the first k probes have their places.
use Rattle.meaning.specs.Words.{by_node}
use Rattle.book.specs.Layout.{all_sends, all_hears}
use Rattle.book.proofs.LayingOut.{Laid}
use Rattle.book.proofs.laid_out.Given as goal

abbrev pub invariant-loop-k : goal.invariant-loop-k
invariant-loop-k l = Laid l.tree.probes (by_node l.tree.parents) (by_node l.tree.packets) l.end l.k (all_sends l.lists) (all_hears l.lists) l.at
