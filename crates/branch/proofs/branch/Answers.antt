-- `branch::branch` meets its contract: one probe more is one summand more, and those past the table are none.
use Rattle.std.proofs.Common.{◌+◌, refl, sym, ap₂, ◌∙◌, arith, rules}
use Rattle.meaning.specs.Words.{sum}
use Rattle.laws.proofs.Turns.{sum_one}
use Rattle.branch.proofs.Walking.{packets-all}
use Rattle.branch.proofs.branch.Goals as goal

pub loop-k-init : goal.loop-k-init
unfolding sum
loop-k-init c = (refl, omega arith)

pub loop-k-preserved : goal.loop-k-preserved
loop-k-preserved c = (ap₂ ◌+◌ c.loop-k.invariant.0 c.brought.ensures ∙ sym (sum_one _ _), omega arith)

pub returns : goal.returns
returns c =
    let a = c.args in
    let done = c.loop-k in
    (packets-all a.tree.now.parents a.tree.now.packets (search rules) a.tree.now.probes a.top done.k _ (omega arith) done.invariant.0, omega arith)
