-- How long the words of a number can be: no longer than the longest of the table, or of the part of it where it stands, and than the words of merged readings' own.
use mathlib.Core.Path.{◌≡◌, refl, ap, ◌∙◌, subst}
use mathlib.Core.Bool.{Bool, true, false, cond}
use mathlib.Core.List.{List, [], ◌∷◌}
use Prim.Native.Nat.{ℕ, zero, suc, ◌+◌, ◌-◌, ◌≤◌, ◌<◌, max}
use native.Mathlib.Omega.{arith}
use borrow.Author.Tests.{leb-true}
use lib.Dec.{eqb}
use lib.ListN.{length, get_or, take, drop}
use lib.Seq.{get_or-take, get_or-drop}
use Rattle.meaning.specs.declared.Mode.{Mode}
use Rattle.meaning.specs.declared.Mode.TheVariants.{Packets, Merged}
use Rattle.meaning.specs.Lister.{text}
use Rattle.sayings.specs.Saying.{unknown, sayings, saying, saying_in}

-- the longest of some words
longest : List (List ℕ) → ℕ
longest [] = 0
longest (words ∷ more) = max (length words) (longest more)

at_most : (k : ℕ) (words : List ℕ) → length words ≤ k → (all : List (List ℕ)) → longest all ≤ k → (n : ℕ) → length (get_or all n words) ≤ k
unfolding longest
at_most k words w [] h n = w
at_most k words w (first ∷ more) h zero = let most : max (length first) (longest more) ≤ k = h in omega (arith, most)
at_most k words w (first ∷ more) h (suc n) = let most : max (length first) (longest more) ≤ k = h in at_most k words w more (omega (arith, most)) n

-- and those of merged readings' own are short
in-any-mode : (k : ℕ) → 21 ≤ k → (mode : Mode) (number : ℕ) → length (saying number) ≤ k → length (saying_in mode number) ≤ k
unfolding text
in-any-mode k h Packets number most = most
in-any-mode k h Merged number most = go (eqb number 14) (eqb number 17)
  where
    go : (first second : Bool) → length (cond first (text " is not ready") (cond second (text "some probe never sent") (saying number))) ≤ k
    go true second = omega (arith, leb-true (length (text " is not ready")) 21 refl)
    go false true = h
    go false false = most

pub saying-long : (mode : Mode) (number : ℕ) → length (saying_in mode number) ≤ 80
unfolding longest text unknown sayings saying
saying-long mode number =
    in-any-mode 80 (leb-true 21 80 refl) mode number (at_most 80 unknown (leb-true (length unknown) 80 refl) sayings (leb-true (longest sayings) 80 refl) number)

-- what 12 to 15 say is short, so that senders can stand before it
pub saying-short : (mode : Mode) (number : ℕ) → 11 < number → number < 16 → length (saying_in mode number) ≤ 43
unfolding longest text unknown sayings saying
saying-short mode number low high =
    let k = number - 12 in
    let four = take 4 (drop 12 sayings) in
    let back : 12 + (number - 12) ≡ number = omega (arith, low) in
    let inside : number - 12 < 4 = omega (arith, low, high) in
    in-any-mode 43 (leb-true 21 43 refl) mode number
    (subst (λ (words : List ℕ). length words ≤ 43)
    (get_or-take 4 (drop 12 sayings) k unknown inside ∙ get_or-drop 12 sayings k unknown ∙ ap (λ (n : ℕ). get_or sayings n unknown) back)
    (at_most 43 unknown (leb-true (length unknown) 43 refl) four (leb-true (longest four) 43 refl) k))
