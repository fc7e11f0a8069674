-- Where the lists of a wake book stand, known from the sheet alone: each probe sends as often as its branch has packets, and hears all of these but its own.
use Rattle.std.specs.Prelude.{cond, List, map, ℕ, ◌+◌, ◌-◌, ◌*◌, leb, length}
use Rattle.book.specs.declared.Lists.{Lists}
use Rattle.meaning.specs.Returned.{Booked}
use Rattle.meaning.specs.declared.Names.{Names}
use Rattle.meaning.specs.declared.Outcome.{Outcome}
use Rattle.meaning.specs.Words.{Bytes, Node, for_each, sum}
use Rattle.meaning.specs.Yard.{is_probe, branch_packets}
use Rattle.reader.specs.Noted.{two_set}

-- where the nodes' lists of sendings stand, and those of hearings
abbrev pub all_sends : List Lists → List ℕ
all_sends lists = map (λ (l : Lists). l.sends) lists

abbrev pub all_hears : List Lists → List ℕ
all_hears lists = map (λ (l : Lists). l.hears) lists

-- over any parents and packets of p probes
module _ (p : ℕ) (parent : Node → Node) (packets : Node → ℕ) where
  -- how often a probe sends, and how often it hears
  abbrev pub sendings : Node → ℕ
  sendings = branch_packets p parent packets

  abbrev pub hearings : Node → ℕ
  hearings v = sendings v - packets v

  -- where the entry of probe k + 2 begins, which is where its sendings are listed
  abbrev pub sends_at : (k : ℕ) → ℕ
  sends_at k = sum k (λ j. 4 + 2 * sendings (j + 2) + 2 * hearings (j + 2))

  -- where its hearings are listed
  abbrev pub hears_at : (k : ℕ) → ℕ
  hears_at k = sends_at k + 2 + 2 * sendings (k + 2)

  -- the same by node: what is no probe has no list, but a place behind all of them
  unfoldable pub sends_of : (end : ℕ) → Node → ℕ
  sends_of end v = cond (is_probe p v) (sends_at (v - 2)) end

  unfoldable pub hears_of : (end : ℕ) → Node → ℕ
  hears_of end v = cond (is_probe p v) (hears_at (v - 2)) end

-- a buffer with an empty list at a place, where it has room
unfoldable pub begun : (place : ℕ) → Bytes → Bytes
begun place book = cond (leb (place + 2) (length book)) (two_set place 0 book) book

-- a buffer in which both lists of each of p probes begin, by the places of each
unfoldable pub all_begun : (p : ℕ) → (sends hears : Node → ℕ) → Bytes → Bytes
all_begun p sends hears book = for_each p (λ k now. begun (hears (k + 2)) (begun (sends (k + 2)) now)) book

-- what a refusal answers: its outcome, whom it names, and no bytes
abbrev pub refused_book : Outcome → Names → Booked
refused_book outcome names = record { outcome = outcome; names = names; bytes = 0 }
