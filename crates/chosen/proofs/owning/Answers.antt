-- `chosen::owning` meets its contract: what the closure gives at each place is whether that node owns the slot.
use mathlib.Core.Bool.{false, ◌&&◌}
use Prim.Native.Nat.{ℕ}
use borrow.Author.Rules.{rules}
use borrow.Author.Tests.{tests}
use lib.Dec.{eqb}
use lib.ListN.{get_or}
use Rattle.meaning.specs.Rounds.{holds, owners_by_probe}
use Rattle.chosen.proofs.Chains.{made}
use Rattle.chosen.proofs.owning.Goals as goal

pub returns : goal.returns
unfolding owners_by_probe
returns c =
    made _ (λ (v : ℕ). eqb (get_or c.args.own.now v 0) c.args.s.0 && holds c.args.held.now v) _ (λ i y q k. search (rules, tests)) 65 _ false
    c.from_fn.ensures.items
