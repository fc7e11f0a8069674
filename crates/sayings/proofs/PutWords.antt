-- The words of merged readings are those of packets but for two numbers: the tests of both are rewritten.
use mathlib.Core.Path.{◌≡◌}
use Prim.Native.Nat.{ℕ}
use borrow.Author.Tests.{ne_eqb}
use Rattle.meaning.specs.declared.Mode.TheVariants.{Merged}
use Rattle.sayings.specs.Saying.{saying, saying_in}

pub said-of-packets : (number : ℕ) → (number ≡ 14 → ⊥) → (number ≡ 17 → ⊥) → saying number ≡ saying_in Merged number
said-of-packets number ready all = rw (ne_eqb number 14 ready, ne_eqb number 17 all)
