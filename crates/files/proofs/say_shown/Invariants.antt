-- `files::say_shown` meets its contract. The invariant: the bytes before this one are said as they are shown.
use lib.ListN.{get_or}
use Rattle.meaning.specs.Words.{tab}
use Rattle.lines.specs.Text.{Says}
use Rattle.files.specs.Name.{plain_byte}
use Rattle.files.proofs.say_shown.Given as goal

abbrev pub invariant-loop-byte : goal.invariant-loop-byte
invariant-loop-byte l = Says 4500 l.initial.line (tab l.byte-index (λ k. plain_byte (get_or l.path k 0))) l.line
