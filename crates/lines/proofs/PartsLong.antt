-- How long a text can be: part by part.
use mathlib.Core.Path.{◌≡◌, refl}
use mathlib.Core.Bool.{true}
use mathlib.Core.List.{List, ◌++◌}
use Prim.Native.Nat.{ℕ, ◌+◌, ◌≤◌}
use Prim.Native.String.{String}
use native.Mathlib.Omega.{arith}
use borrow.Author.Tests.{leb-true}
use lib.Dec.{leb}
use lib.ListN.{length, length-append}
use Rattle.meaning.specs.Lister.{text, decimal, said, refusal_line, numbers_line}
use Rattle.meaning.specs.declared.Outcome.{Outcome}
use Rattle.lines.proofs.Decimal.{digits-most}
use Rattle.lines.proofs.Lined.{said-length}

-- so many bytes at most
pub record Within (bytes : List ℕ) (most : ℕ) : Type 0 where
  pub short : length bytes ≤ most

-- by counting; one part behind another; a word with its number; a number alone
pub counted : {bytes : List ℕ} {most : ℕ} → leb (length bytes) most ≡ true → Within bytes most
counted {bytes} {most} e = record { short = leb-true (length bytes) most e }

pub both : {xs ys : List ℕ} {a b : ℕ} → Within xs a → Within ys b → Within (xs ++ ys) (a + b)
both {xs} {ys} h k = record { short = omega (arith, length-append xs ys, h.short, k.short) }

pub numbered : {a : ℕ} (word : String) (n : ℕ) → Within (text word) a → Within (said word n) (a + 6)
numbered word n h = record { short = omega (arith, said-length word n, digits-most 5 n, h.short) }

pub digits_long : (n : ℕ) → Within (decimal 5 n) 5
digits_long n = record { short = digits-most 5 n }

-- the lister's lines
pub refusal-most : (outcome : Outcome) → length (refusal_line outcome) ≤ 256
unfolding text
refusal-most outcome =
    let number = numbered {a = 7} "refused" outcome.number (counted refl) in
    let place = numbered {a = 0} "" outcome.place (counted refl) in
    let line = both (both number place) (counted {bytes = text "\n"} {most = 1} refl) in
    omega (arith, line.short)

pub numbers-most : (colours slots packets most fewest : ℕ) → length (numbers_line colours slots packets most fewest) ≤ 256
unfolding text numbers_line
numbers-most colours slots packets most fewest =
    let two = both (numbered {a = 7} "colours" colours (counted refl)) (numbered {a = 6} " slots" slots (counted refl)) in
    let four = both (both two (numbered {a = 8} " packets" packets (counted refl))) (numbered {a = 9} " heaviest" most (counted refl)) in
    let line = both (both four (numbered {a = 6} " least" fewest (counted refl))) (counted {bytes = text "\n"} {most = 1} refl) in
    omega (arith, line.short)
