-- `book::by_sender` meets its contract. The invariant: the places of the nodes passed are put, and behind them is 0.
use Rattle.book.specs.Layout.{all_sends, all_hears}
use Rattle.book.proofs.LayingOut.{Told}
use Rattle.book.proofs.by_sender.Given as goal

abbrev pub invariant-loop-v : goal.invariant-loop-v
invariant-loop-v l = Told l.tree.parents (all_sends l.lists) (all_hears l.lists) l.v l.at
