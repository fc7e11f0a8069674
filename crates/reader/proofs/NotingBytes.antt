-- What one note does by the tests of the code: nothing where the list has no room or its count is full; else the number, then the count.
use mathlib.Core.Path.{◌≡◌, refl, sym, ap, ◌∙◌}
use mathlib.Core.Bool.{Bool, true, false, cond, ◌&&◌, and-false}
use mathlib.Core.List.{List}
use Prim.Native.Nat.{ℕ, ◌+◌, ◌*◌, ◌≤◌, ◌<◌}
use native.Mathlib.Omega.{arith}
use lib.Dec.{leb, ltb}
use lib.ListN.{length, get_or, length-set}
use borrow.Author.Tests.{le-leb, lt-leb, lt-ltb, le-ltb}
use Rattle.meaning.specs.Words.{places, for_each}
use Rattle.meaning.specs.Sheet.{two_at}
use Rattle.laws.proofs.Turns.{for_each-one}
use Rattle.reader.specs.Noted.{two_set, noted, noted_sender}

-- the list at a place has no room for a number more
pub no_room : (place number : ℕ) (book : List ℕ) → length book < place + 4 + 2 * two_at book place → noted place number book ≡ book
unfolding noted
no_room place number book h = rw (lt-leb (place + 4 + 2 * two_at book place) (length book) h)

-- its count is full
pub no-count : (place number : ℕ) (book : List ℕ) → two_at book place ≡ 65535 → noted place number book ≡ book
unfolding noted
no-count place number book h =
    rw (le-ltb (two_at book place) 65535 (omega arith), and-false (leb (place + 4 + 2 * two_at book place) (length book)))

-- it has both
pub noted-there : (place number : ℕ) (book : List ℕ) → place + 4 + 2 * two_at book place ≤ length book → two_at book place < 65535
    → noted place number book ≡ two_set place (two_at book place + 1) (two_set (place + 2 + 2 * two_at book place) number book)
unfolding noted
noted-there place number book h full =
    rw (le-leb (place + 4 + 2 * two_at book place) (length book) h, lt-ltb (two_at book place) 65535 full)

-- a note leaves a buffer as long as it was
pub noted-long : (place number : ℕ) (book : List ℕ) → length (noted place number book) ≡ length book
unfolding noted
noted-long place number book = go (leb (place + 4 + 2 * two_at book place) (length book) && ltb (two_at book place) 65535)
  where
    go : (b : Bool) → length (cond b (two_set place (two_at book place + 1) (two_set (place + 2 + 2 * two_at book place) number book)) book) ≡ length book
    go true = simp length-set
    go false = refl

-- a sender that is no node has no list
pub no-sender : (at : List ℕ) (number sender : ℕ) (book : List ℕ) → places ≤ sender → noted_sender at number sender book ≡ book
unfolding noted_sender
no-sender at number sender book h = rw (le-ltb sender places h)

pub a-sender : (at : List ℕ) (number sender : ℕ) (book : List ℕ) → sender < places
    → noted_sender at number sender book ≡ noted (get_or at (2 * sender + 1) 0) number (noted (get_or at (2 * sender) 0) number book)
unfolding noted_sender
a-sender at number sender book h = rw (lt-ltb sender places h)

pub sender-long : (at : List ℕ) (number sender : ℕ) (book : List ℕ) → length (noted_sender at number sender book) ≡ length book
unfolding noted_sender
sender-long at number sender book = go (ltb sender places)
  where
    go : (b : Bool) → length (cond b (noted (get_or at (2 * sender + 1) 0) number (noted (get_or at (2 * sender) 0) number book)) book) ≡ length book
    go true = noted-long _ _ _ ∙ noted-long _ _ _
    go false = refl

pub sender-kept : (at : List ℕ) (number sender : ℕ) (book after : List ℕ) (n : ℕ) → after ≡ noted_sender at number sender book → length book ≡ n
    → length after ≡ n
sender-kept at number sender book after n put long = ap length put ∙ sender-long at number sender book ∙ long

-- one sender of a slot more
pub sender-next : (at : List ℕ) (number : ℕ) (slot : List ℕ) (i : ℕ) (start book after : List ℕ)
    → book ≡ for_each i (λ j. noted_sender at number (get_or slot j 0)) start → after ≡ noted_sender at number (get_or slot i 0) book
    → after ≡ for_each (i + 1) (λ j. noted_sender at number (get_or slot j 0)) start
sender-next at number slot i start book after so put =
    put ∙ ap (noted_sender at number (get_or slot i 0)) so ∙ sym (for_each-one i (λ j. noted_sender at number (get_or slot j 0)) start)
