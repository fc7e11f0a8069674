-- `lines::put_sender` meets its contract: the words before the number are one space.
use Rattle.meaning.specs.Lister.{text}
use Rattle.lines.proofs.Lined.{sender-length}
use native.Mathlib.Omega.{arith}
use Rattle.lines.proofs.put_sender.Goals as goal

pub put_said-requires : goal.put_said-requires
put_said-requires c = omega (arith, c.requires, sender-length c.args.v.0)

pub returns : goal.returns
unfolding text
returns c = c.put_said.ensures
