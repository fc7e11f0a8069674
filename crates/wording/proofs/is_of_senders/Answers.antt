-- `wording::is_of_senders` meets its contract: each answer rewrites with the test that led to it.
use borrow.Author.Tests.{lt-ltb, le-ltb}
use Rattle.wording.proofs.is_of_senders.Goals as goal

pub returns-then-number-gt11 : goal.returns-then-number-gt11
returns-then-number-gt11 c =
    simp (lt-ltb _ _ c.if-number-gt11.true)

pub returns-else-number-gt11 : goal.returns-else-number-gt11
returns-else-number-gt11 c =
    simp (le-ltb _ _ c.if-number-gt11.false)
