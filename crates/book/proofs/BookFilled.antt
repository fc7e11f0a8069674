-- The main law of the wake book: one pass over the slots of a plan that the judge passes leaves exactly the book, whose length the sheet tells. The lists
-- have in the end as many slots as they have room for, so that nothing else is left in an entry.
use mathlib.Core.Path.{◌≡◌, sym, ap, ◌∙◌}
use mathlib.Core.Bool.{Bool, true, false, cond}
use mathlib.Core.List.{List, [], ◌++◌}
use Prim.Native.Nat.{ℕ, ◌+◌, ◌-◌, ◌*◌, ◌≤◌, ◌<◌}
use native.Mathlib.Omega.{arith}
use lib.ListN.{length, get_or, drop, length-append, length-drop}
use Rattle.meaning.specs.Yard.{is_probe, reaches}
use Rattle.meaning.specs.Sheet.{probe_count, parent_of, packets_of}
use Rattle.meaning.specs.Plan.{slots_of_plan, front}
use Rattle.meaning.specs.Answer.{is_accepted}
use Rattle.meaning.specs.Judge.{judge}
use Rattle.meaning.specs.Legal.{held_first}
use Rattle.meaning.specs.Book.{sends, hears, counted, wake_book}
use Rattle.laws.proofs.Turns.{sum-least, sum-constant}
use Rattle.laws.proofs.Walk.{probe-yes}
use Rattle.laws.proofs.Accepted.{accepted-yard}
use Rattle.limits.proofs.Branch.{branch-own}
use Rattle.limits.proofs.AcceptedYard as Yard
use Rattle.limits.proofs.PlanRuns.{passed-ran}
use Rattle.limits.proofs.BookLength.{sends-length, hears-length}
use Rattle.reader.specs.Noted.{noted_slots}
use Rattle.book.specs.Layout.{sendings, hearings, sends_at, hears_at, sends_of, hears_of, all_begun}
use Rattle.limits.proofs.BookRoom.{counted-length}
use Rattle.book.proofs.Entries.{Room, parts-length, making-full}
use Rattle.book.proofs.Beginning.{first-room, second-room, all-begun}
use Rattle.book.proofs.Passing.{Placed, slots-noted}

cond-most : (b : Bool) (x most : ℕ) → x ≤ most → cond b x 0 ≤ most
cond-most true x most h = h
cond-most false x most h = omega arith

-- the number of a probe, from 0
back : (k : ℕ) → k + 2 - 2 ≡ k
back k = omega arith

module _ (s plan : List ℕ) (h : is_accepted (judge s plan).outcome ≡ true) where
  abbrev sent : ℕ → ℕ
  sent k = sendings (probe_count s) (parent_of s) (packets_of s) (k + 2)

  abbrev heard : ℕ → ℕ
  heard k = hearings (probe_count s) (parent_of s) (packets_of s) (k + 2)

  abbrev all : ℕ
  all = sends_at (probe_count s) (parent_of s) (packets_of s) (probe_count s)

  probe : (k : ℕ) → k < probe_count s → is_probe (probe_count s) (k + 2) ≡ true
  probe k hk = probe-yes (probe_count s) (k + 2) (omega arith) (omega arith)

  sends-many : (k : ℕ) → k < probe_count s → length (sends plan (k + 2)) ≡ sent k
  sends-many k hk = sends-length s plan h (k + 2) (probe k hk)

  hears-many : (k : ℕ) → k < probe_count s → length (hears s plan (k + 2)) ≡ heard k
  hears-many k hk =
      omega (
        arith,
        hears-length s plan h (k + 2),
        branch-own (probe_count s) (parent_of s) (Yard.rooted s (passed-ran s plan h).sheet) (packets_of s) (k + 2) (probe k hk),
      )

  -- a branch has no more packets than 63 probes have
  sent-few : (k : ℕ) → k < probe_count s → sent k ≤ 65535
  sent-few k hk =
      let yard = accepted-yard s (passed-ran s plan h).sheet in
      omega (
        arith,
        sum-least (probe_count s) (λ j. cond (reaches (parent_of s) (k + 2) (probe_count s) (j + 2)) (packets_of s (j + 2)) 0) (λ _. 15)
            (λ j hj. cond-most (reaches (parent_of s) (k + 2) (probe_count s) (j + 2)) (packets_of s (j + 2)) 15 (yard.probe (j + 2) (probe j hj)).packets_most),
        sum-constant (probe_count s) 15,
        yard.few,
      )

  -- the book's length is known from the sheet
  pub book-bytes : length (wake_book s plan) ≡ sends_at (probe_count s) (parent_of s) (packets_of s) (probe_count s)
  unfolding wake_book
  book-bytes =
      parts-length (λ k. counted (sends plan (k + 2)) ++ counted (hears s plan (k + 2))) (λ k. 4 + 2 * sent k + 2 * heard k) (probe_count s)
      (λ k hk.
      omega (
        arith,
        length-append (counted (sends plan (k + 2))) (counted (hears s plan (k + 2))),
        counted-length (sends plan (k + 2)),
        counted-length (hears s plan (k + 2)),
        sends-many k hk,
        hears-many k hk,
      ))

  -- where a list stands, by node
  sends-place : (end v : ℕ) → is_probe (probe_count s) v ≡ true
      → sends_of (probe_count s) (parent_of s) (packets_of s) end v ≡ sends_at (probe_count s) (parent_of s) (packets_of s) (v - 2)
  unfolding sends_of
  sends-place end v hv = ap (λ (b : Bool). cond b (sends_at (probe_count s) (parent_of s) (packets_of s) (v - 2)) end) hv

  hears-place : (end v : ℕ) (b : Bool) → is_probe (probe_count s) v ≡ b
      → hears_of (probe_count s) (parent_of s) (packets_of s) end v ≡ cond b (hears_at (probe_count s) (parent_of s) (packets_of s) (v - 2)) end
  unfolding hears_of
  hears-place end v b hv = ap (λ (b : Bool). cond b (hears_at (probe_count s) (parent_of s) (packets_of s) (v - 2)) end) hv

  -- the pass leaves the book, and the bytes behind it stay
  pub book-filled : (book at : List ℕ)
      → ((v : ℕ) → is_probe (probe_count s) v ≡ true → get_or at (2 * v) 0 ≡ sends_of (probe_count s) (parent_of s) (packets_of s) (length book) v)
      → ((v : ℕ) → is_probe (probe_count s) v ≡ true → get_or at (2 * v + 1) 0 ≡ hears_of (probe_count s) (parent_of s) (packets_of s) (length book) (parent_of s v))
      → sends_at (probe_count s) (parent_of s) (packets_of s) (probe_count s) ≤ length book
      → noted_slots at 1 (slots_of_plan plan)
      (all_begun (probe_count s) (sends_of (probe_count s) (parent_of s) (packets_of s) (length book)) (hears_of (probe_count s) (parent_of s) (packets_of s) (length book)) book)
      ≡ front book (wake_book s plan)
  unfolding wake_book
  book-filled book at own up room =
      let ran = passed-ran s plan h in
      let few₂ : (k : ℕ) → k < probe_count s → heard k ≤ 65535 = λ k hk. omega (arith, sent-few k hk) in
      let a : Room (probe_count s) sent = first-room (probe_count s) sent heard book room sent-few few₂ in
      let b : Room (probe_count s) heard = second-room (probe_count s) sent heard book room sent-few few₂ in
      let tail : List ℕ = drop all book in
      let end : all + length tail ≡ length book = omega (arith, length-drop all book) in
      let placed : Placed s sent heard (all + length tail) at =
      record {
        sends = λ v hv. own v hv ∙ sends-place (length book) v hv;
        hears = λ v hv hp. up v hv ∙ hears-place (length book) (parent_of s v) true hp;
        gateway = λ v hv none. up v hv ∙ hears-place (length book) (parent_of s v) false none ∙ sym end;
      } in
      ap (noted_slots at 1 (slots_of_plan plan))
      (all-begun (probe_count s) sent heard book room sent-few few₂ (sends_of (probe_count s) (parent_of s) (packets_of s) (length book))
      (hears_of (probe_count s) (parent_of s) (packets_of s) (length book))
      (λ k hk. sends-place (length book) (k + 2) (probe k hk) ∙ ap (sends_at (probe_count s) (parent_of s) (packets_of s)) (back k))
      (λ k hk. hears-place (length book) (k + 2) true (probe k hk) ∙ ap (hears_at (probe_count s) (parent_of s) (packets_of s)) (back k)))
      ∙ slots-noted s ran.sheet sent heard a b tail at placed (held_first s) 1 (slots_of_plan plan) ran.runs (λ _. []) (λ _. [])
      (λ k hk. omega (arith, sends-many k hk)) (λ k hk. omega (arith, hears-many k hk))
      ∙ making-full (probe_count s) sent heard a b tail (λ k. sends plan (k + 2)) (λ k. hears s plan (k + 2)) sends-many hears-many
      ∙ ap (λ (n : ℕ). wake_book s plan ++ drop n book) (sym book-bytes)
