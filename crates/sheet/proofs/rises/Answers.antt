-- `sheet::rises` meets its contract: each answer rewrites with the tests that led to it.
use borrow.Author.Tests.{lt-ltb, le-ltb, eq-eqb, ne_eqb}
use Rattle.sheet.proofs.rises.Goals as goal

pub returns-then-a-c : goal.returns-then-a-c
returns-then-a-c c =
    simp (lt-ltb _ _ c.if-a-c.true)

pub returns-then-a-c-2 : goal.returns-then-a-c-2
returns-then-a-c-2 c =
    simp (le-ltb _ _ c.if-a-c.false, eq-eqb _ _ c.if-a-c-2.true)

pub returns-else-a-c-2 : goal.returns-else-a-c-2
returns-else-a-c-2 c =
    simp (le-ltb _ _ c.if-a-c.false, ne_eqb _ _ c.if-a-c-2.false)
