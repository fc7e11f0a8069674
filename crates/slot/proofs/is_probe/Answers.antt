-- `slot::is_probe` meets its contract: the wrapped difference is below p for the probes and for no other byte.
use Rattle.slot.proofs.Tests.{probe-wrapped}
use native.Mathlib.Omega.{arith}
use Rattle.slot.proofs.is_probe.Goals as goal

pub returns : goal.returns
returns c =
    probe-wrapped c.args.p c.args.sender _ c.requires (omega arith) (omega arith)
