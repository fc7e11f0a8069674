-- RULES, "The wake book": in which slots each probe opens its radio.
use Rattle.std.specs.Prelude.{Bool, cond, List, [], ◌∷◌, ◌++◌, ℕ, ◌+◌, ◌*◌, eqb, ltb, length, get_or}
use Rattle.meaning.specs.Returned.{Booked}
use Rattle.meaning.specs.Words.{Bytes, Node, Slots, for_each, some, tab, in_turn}
use Rattle.meaning.specs.Sheet.{two_at, probe_count, parent_of}
use Rattle.meaning.specs.Plan.{two_bytes, slots_of_plan}
use Rattle.meaning.specs.Answer.{is_accepted, given, ◌then◌}
use Rattle.meaning.specs.Judge.{judgement}
use Rattle.meaning.specs.Lister.{text, said, senders_text}

-- a number stands in a list
abbrev pub among : ℕ → List ℕ → Bool
among k list = some (length list) (λ i. eqb (get_or list i 0) k)

-- some sender of a slot passes the test
abbrev pub some_sender : (test : Node → Bool) → (slot : List Node) → Bool
some_sender test slot = some (length slot) (λ i. test (get_or slot i 0))

-- the numbers of the slots that pass, rising, where the first slot has the number `first`; slots without a sender are counted too
unfoldable pub slots_where : (passes : List Node → Bool) → (first : ℕ) → Slots → List ℕ
slots_where passes first [] = []
slots_where passes first (slot ∷ slots) = cond (passes slot) (first ∷ []) [] ++ slots_where passes (first + 1) slots

-- "The wake book": the slots of a plan in which v is among the senders, counted from 1
abbrev pub sends : (plan : Bytes) → Node → List ℕ
sends plan v = slots_where (among v) 1 (slots_of_plan plan)

-- "The wake book": the slots in which a child of v sends to it, counted from 1
abbrev pub hears : (s plan : Bytes) → Node → List ℕ
hears s plan v = slots_where (some_sender (λ u. eqb (parent_of s u) v)) 1 (slots_of_plan plan)

-- "The wake book": numbers of two bytes each, high first
unfoldable pub two_each : List ℕ → Bytes
two_each [] = []
two_each (number ∷ numbers) = two_bytes number ++ two_each numbers

-- "The wake book": a count, and then the slots
abbrev pub counted : (slots : List ℕ) → Bytes
counted slots = two_each (length slots ∷ slots)

-- "The wake book": for each probe in rising number the slots in which it sends, and those in which a child sends to it
unfoldable pub wake_book : (s plan : Bytes) → Bytes
wake_book s plan = in_turn (probe_count s) (λ k. counted (sends plan (k + 2)) ++ counted (hears s plan (k + 2)))

-- "The wake book": room for any book, 30 × 63 × 63 + 4 × 63
abbrev pub any_book : ℕ
any_book = 119322

-- what the maker of books makes: its answer, and the bytes that it writes at the start of the book buffer
pub record BookMade : Type 0 where
  pub answer : Booked
  pub written : Bytes

-- "The wake book": the judge's numbers first, with whom they name, then 22; a refusal has no bytes and writes nothing
unfoldable pub book_made : (s plan : Bytes) → (room : ℕ) → BookMade
book_made s plan room =
    let judged = judgement s plan in
    let book = wake_book s plan in
    let outcome = judged.verdict.outcome then given 22 0 (ltb room (length book)) in
    cond (is_accepted outcome)
    (record { answer = record { outcome = outcome; names = judged.names; bytes = length book }; written = book })
    (record { answer = record { outcome = outcome; names = judged.names; bytes = 0 }; written = [] })

-- "The wake book", read: the list at a place of a book has its count there, and then its slots; behind it the next begins
abbrev pub list_at : (book : Bytes) → (at : ℕ) → List ℕ
list_at book at = tab (two_at book at) (λ i. two_at book (at + 2 + 2 * i))

abbrev pub behind_list : (book : Bytes) → (at : ℕ) → ℕ
behind_list book at = at + 2 + 2 * two_at book at

-- "The wake book", read: where the entry of probe k + 2 begins; each entry has two lists
unfoldable pub entry_at : (book : Bytes) → (k : ℕ) → ℕ
entry_at book k = for_each k (λ _ at. behind_list book (behind_list book at)) 0

-- "The wake book": slots in words, each after a space
abbrev pub slots_text : (slots : List ℕ) → Bytes
slots_text slots = cond (eqb (length slots) 0) (text " no slot") (senders_text slots)

-- "The wake book": an entry as a person reads it
unfoldable pub wake_line : Node → (sends hears : List ℕ) → Bytes
wake_line v sends hears = said "probe" v ++ text " sends in" ++ slots_text sends ++ text ", listens in" ++ slots_text hears ++ text "\n"
