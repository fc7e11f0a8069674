-- The words of the page of promises for wake books: what `book::wake_book` answers and leaves behind, and how a probe reads its entry.
use Rattle.std.specs.Prelude.{◌≡◌, List, ℕ, ◌+◌, ◌≤◌, ◌<◌, length, get_or}
use Rattle.meaning.specs.Returned.{Booked}
use Rattle.meaning.specs.Words.{Bytes}
use Rattle.meaning.specs.Plan.{front}
use Rattle.meaning.specs.Book.{book_made, list_at, behind_list, entry_at}

-- it answers this and leaves the buffer so
abbrev pub MakesBook : (s plan buffer : Bytes) → Booked → Bytes → Type 0
MakesBook s plan buffer r left =
    ((book_made s plan (length buffer)).answer ≡ r) × (front buffer (book_made s plan (length buffer)).written ≡ left)

-- the two lists that probe k + 2 reads in a book
abbrev pub sendings : (book : Bytes) → (k : ℕ) → List ℕ
sendings book k = list_at book (entry_at book k)

abbrev pub receivings : (book : Bytes) → (k : ℕ) → List ℕ
receivings book k = list_at book (behind_list book (entry_at book k))

-- each number is below the next, and the first is at least 1
abbrev pub Rising : List ℕ → Type 0
Rising list = ((i : ℕ) → i + 1 < length list → get_or list i 0 < get_or list (i + 1) 0) × ((i : ℕ) → i < length list → 1 ≤ get_or list i 0)
