-- `chosen::free_to_send` meets its contract: what the closure gives at each place is whether that node is to send.
use mathlib.Core.Bool.{false, not, ◌&&◌, ◌||◌}
use Prim.Native.Nat.{ℕ}
use borrow.Author.Rules.{rules}
use borrow.Author.Tests.{tests}
use lib.ListN.{get_or}
use Rattle.meaning.specs.Rounds.{holds}
use Rattle.chosen.proofs.Chains.{made}
use Rattle.chosen.proofs.free_to_send.Goals as goal

pub returns : goal.returns
returns c =
    let a = c.args in
    made _ (λ (v : ℕ). get_or a.owners.now v false || holds a.held.now v && not (get_or a.blocked.now v false)) _ (λ i y q k. search (rules, tests)) 65 _ false
    c.from_fn.ensures.items
