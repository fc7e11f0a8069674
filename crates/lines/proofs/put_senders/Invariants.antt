-- `lines::put_senders` meets its contract. The invariant: the senders before this one are put.
use lib.ListN.{take}
use Rattle.meaning.specs.Lister.{senders_text}
use Rattle.lines.specs.Line.{Put}
use Rattle.lines.proofs.put_senders.Given as goal

abbrev pub invariant-loop-v : goal.invariant-loop-v
invariant-loop-v l = Put l.initial.out l.at (senders_text (take l.v-index l.senders)) l.out l.end
