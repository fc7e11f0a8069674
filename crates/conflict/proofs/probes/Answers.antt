-- `conflict::probes` meets its contract: each call answers with the number of its node.
use Rattle.std.proofs.Common.{rules}
use Rattle.laws.proofs.Made.{made_tab}
use Rattle.conflict.specs.Heard.{probe_at}
use Rattle.conflict.proofs.probes.Goals as goal

pub returns : goal.returns
returns c = made_tab _ _ 65 (probe_at c.args.p) (λ i y after low k. search rules) 0 _ c.from_fn.ensures.items
