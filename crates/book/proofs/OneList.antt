-- One list of a wake book, with any bytes before and behind it: two bytes are read or written at a seam, and `append_assoc` moves the seam.
use mathlib.Core.Path.{◌≡◌, refl, sym, ap, ◌∙◌}
use mathlib.Core.List.{List, [], ◌∷◌, ◌++◌, append_assoc}
use Prim.Native.Nat.{ℕ, ◌+◌, ◌*◌, ◌/◌, ◌%◌, ◌≤◌, ◌<◌}
use native.Mathlib.Nat.{not-suc-le-zero, le_of_suc-le-suc}
use native.Mathlib.Omega.{arith}
use lib.ListN.{length, get_or, set, drop, length-append}
use lib.Seq.{append_snoc, get_or_at, set_at}
use borrow.Author.Tests.{lt-ltb, le-leb, lt-leb}
use Rattle.meaning.specs.Sheet.{two_at}
use Rattle.meaning.specs.Plan.{two_bytes}
use Rattle.meaning.specs.Book.{two_each, counted}
use Rattle.limits.proofs.BookRoom.{counted-length}
use Rattle.reader.specs.Noted.{two_set, noted}
use Rattle.book.specs.Layout.{begun}

pub two-each-append : (l m : List ℕ) → two_each (l ++ m) ≡ two_each l ++ two_each m
unfolding two_each
two-each-append [] m = refl
two-each-append (n ∷ l) m = ap (λ (t : List ℕ). two_bytes n ++ t) (two-each-append l m)

-- two bytes behind xs, written
two-written : (xs rest : List ℕ) (place n : ℕ) → length xs ≡ place → 2 ≤ length rest
    → two_set place n (xs ++ rest) ≡ xs ++ (two_bytes n ++ drop 2 rest)
two-written xs [] place n e h = absurd (not-suc-le-zero h)
two-written xs (a ∷ []) place n e h = absurd (not-suc-le-zero (le_of_suc-le-suc h))
two-written xs (a ∷ b ∷ rest) place n e h =
    let high : ℕ = n / 256 in
    let low : ℕ = n % 256 in
    let behind : length (xs ++ (high ∷ [])) ≡ place + 1 = omega (arith, length-append xs (high ∷ [])) in
    ap (λ (l : List ℕ). set l (place + 1) low) (set_at xs a (b ∷ rest) high place e ∙ sym (append_snoc xs high (b ∷ rest)))
    ∙ set_at (xs ++ (high ∷ [])) b rest low (place + 1) behind
    ∙ append_snoc xs high (low ∷ rest)

-- and read
two-read : (xs rest : List ℕ) (n : ℕ) → two_at (xs ++ (two_bytes n ++ rest)) (length xs) ≡ n
two-read xs rest n =
    let high : ℕ = n / 256 in
    let low : ℕ = n % 256 in
    let behind : length (xs ++ (high ∷ [])) ≡ length xs + 1 = omega (arith, length-append xs (high ∷ [])) in
    let first : get_or (xs ++ (high ∷ low ∷ rest)) (length xs) 0 ≡ high = get_or_at xs high (low ∷ rest) 0 (length xs) refl in
    let moved = ap (λ (l : List ℕ). get_or l (length xs + 1) 0) (append_snoc xs high (low ∷ rest)) in
    let second = get_or_at (xs ++ (high ∷ [])) low rest 0 (length xs + 1) behind in
    omega (arith, first, moved, second)

-- where the list has room, and how many it has
noted-room : (place n many : ℕ) (book : List ℕ) → two_at book place ≡ many → place + 4 + 2 * many ≤ length book → many < 65535
    → noted place n book ≡ two_set place (many + 1) (two_set (place + 2 + 2 * many) n book)
unfolding noted
noted-room place n many book e room few = rw (e, le-leb (place + 4 + 2 * many) (length book) room, lt-ltb many 65535 few)

-- a number more in the list that begins behind `before`: the two bytes behind it are written
pub noted-list : (before l rest : List ℕ) (n : ℕ) → length l < 65535 → 2 ≤ length rest
    → noted (length before) n (before ++ (counted l ++ rest)) ≡ before ++ (counted (l ++ (n ∷ [])) ++ drop 2 rest)
unfolding two_each
noted-list before l rest n few room =
    noted-room place n many (before ++ (counted l ++ rest)) (two-read before (two_each l ++ rest) many) fits few
    ∙ ap (two_set place (many + 1)) number
    ∙ two-written before (counted l ++ behind) place (many + 1) refl (omega arith)
    ∙ ap (λ (k : ℕ). before ++ (two_bytes k ++ (two_each l ++ behind))) (sym (length-append l (n ∷ [])))
    ∙ ap (λ (t : List ℕ). before ++ (two_bytes (length (l ++ (n ∷ []))) ++ t)) joined
  where
    place : ℕ
    place = length before

    many : ℕ
    many = length l

    behind : List ℕ
    behind = two_bytes n ++ drop 2 rest

    fits : place + 4 + 2 * many ≤ length (before ++ (counted l ++ rest))
    fits = omega (arith, length-append before (counted l ++ rest), length-append (counted l) rest, counted-length l)

    number : two_set (place + 2 + 2 * many) n (before ++ (counted l ++ rest)) ≡ before ++ (counted l ++ behind)
    number =
        ap (two_set (place + 2 + 2 * many) n) (sym (append_assoc before (counted l) rest))
        ∙ two-written (before ++ counted l) rest (place + 2 + 2 * many) n (omega (arith, length-append before (counted l), counted-length l)) room
        ∙ append_assoc before (counted l) behind

    joined : two_each l ++ behind ≡ two_each (l ++ (n ∷ [])) ++ drop 2 rest
    joined = sym (append_assoc (two_each l) (two_bytes n) (drop 2 rest)) ∙ ap (λ (t : List ℕ). t ++ drop 2 rest) (sym (two-each-append l (n ∷ [])))

-- a place with no room behind it: nothing
pub noted-end : (place n : ℕ) (book : List ℕ) → length book ≤ place → noted place n book ≡ book
unfolding noted
noted-end place n book h = rw (lt-leb (place + 4 + 2 * two_at book place) (length book) (omega arith))

-- an empty list
pub begun-list : (before rest : List ℕ) → 2 ≤ length rest → begun (length before) (before ++ rest) ≡ before ++ (counted [] ++ drop 2 rest)
unfolding begun two_each
begun-list before rest room =
    rw (le-leb (length before + 2) (length (before ++ rest)) (omega (arith, length-append before rest)))
    (two-written before rest (length before) 0 refl room)
