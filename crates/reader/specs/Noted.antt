-- What a pass over a plan's slots writes: each slot's number behind the list of each sender, and behind that of what its parent hears.
use Rattle.std.specs.Prelude.{cond, ◌&&◌, List, [], ◌∷◌, ℕ, ◌+◌, ◌*◌, ◌/◌, ◌%◌, leb, ltb, length, get_or, set}
use Rattle.meaning.specs.Words.{Bytes, Node, Slots, for_each, places}
use Rattle.meaning.specs.Sheet.{two_at}

-- a buffer with a number at a place, two bytes, high first
abbrev pub two_set : (place number : ℕ) → Bytes → Bytes
two_set place number book = set (set book place (number / 256)) (place + 1) (number % 256)

-- a number more in the list at a place, which begins with its count; nothing where the list has no room
unfoldable pub noted : (place number : ℕ) → Bytes → Bytes
noted place number book =
    let many = two_at book place in
    cond (leb (place + 4 + 2 * many) (length book) && ltb many 65535)
    (two_set place (many + 1) (two_set (place + 2 + 2 * many) number book))
    book

-- a number more in the list of a sender, whose place stands at twice the sender, and in that behind it; a sender that is no node has none
unfoldable pub noted_sender : (at : List ℕ) → (number : ℕ) → (sender : Node) → Bytes → Bytes
noted_sender at number sender book =
    cond (ltb sender places) (noted (get_or at (2 * sender + 1) 0) number (noted (get_or at (2 * sender) 0) number book)) book

-- the same for each sender of a slot
unfoldable pub noted_slot : (at : List ℕ) → (number : ℕ) → (slot : List Node) → Bytes → Bytes
noted_slot at number slot book = for_each (length slot) (λ i. noted_sender at number (get_or slot i 0)) book

-- the same for each slot, the first of which has the number `first`
unfoldable pub noted_slots : (at : List ℕ) → (first : ℕ) → Slots → Bytes → Bytes
noted_slots at first [] book = book
noted_slots at first (slot ∷ slots) book = noted_slots at (first + 1) slots (noted_slot at first slot book)
