-- A wake book as it is answered for: by the definition's own cases, and what its lists say by the laws of the slots that they are made of.
use mathlib.Core.Path.{◌≡◌, refl, sym, ap, ◌∙◌, subst}
use mathlib.Core.Bool.{Bool, true, false}
use mathlib.Core.List.{List, []}
use mathlib.Core.Logic.{inl}
use Prim.Native.Nat.{ℕ, ◌+◌, ◌≤◌, ◌<◌}
use native.Mathlib.Nat.{le_refl}
use native.Mathlib.Omega.{arith}
use lib.Dec.{eqb, ltb}
use lib.ListN.{length, get_or, take}
use borrow.Author.Tests.{le-ltb, lt-ltb}
use Rattle.meaning.specs.declared.Mode.TheVariants.{Packets}
use Rattle.meaning.specs.Returned.{Booked}
use Rattle.meaning.specs.declared.Outcome.{Outcome}
use Rattle.meaning.specs.declared.Verdict.{Verdict}
use Rattle.meaning.specs.declared.Names.{Names}
use Rattle.meaning.specs.Words.{Bytes}
use Rattle.meaning.specs.Yard.{is_probe, branch_packets}
use Rattle.meaning.specs.Sheet.{deciding_sheet, probe_count, parent_of, packets_of}
use Rattle.meaning.specs.Plan.{deciding_plan, front, slots_of_plan}
use Rattle.meaning.specs.Answer.{accepted, is_accepted, given}
use Rattle.meaning.specs.Judge.{judge, nobody, judgement}
use Rattle.meaning.specs.Book.{among, some_sender, slots_where, wake_book, BookMade, book_made}
use Rattle.laws.proofs.Walk.{probe-yes}
use Rattle.laws.proofs.Accepted.{then-goes, then-stays}
use Rattle.laws.proofs.Blame.{without-names, else_nobody}
use Rattle.limits.proofs.PlanRuns.{passed-ran}
use Rattle.limits.proofs.BookLength.{sends-length}
use Rattle.limits.proofs.AmongSlots.{where_below, where-rising, sends-tell, hears-tell}
use Rattle.limits.proofs.BookRoom.{hears-rest, passed-whole, made_by, book_outcome, book-by}
use Rattle.limits.proofs.BookReads.{sends-read, hears-read}
use Rattle.limits.proofs.BookDecided.{book-decided-plan, book-decided-sheet}
use Rattle.promises.specs.Answers.{Passes, Byte, numbers}
use Rattle.promises.specs.WakeBooks.{MakesBook, sendings, receivings, Rising}
use Rattle.promises.proofs.Bytes.{bytes_below}

module _ (s plan buffer : Bytes) where
  -- the verdict behind the names
  verdict : (judgement s plan).verdict.outcome ≡ (judge s plan).outcome
  verdict = ap (λ (v : Verdict). v.outcome) (without-names Packets s plan)

  -- what is made, by whether it is a book
  told : (b : Bool) → is_accepted (book_outcome s plan (length buffer)) ≡ b → (o : Outcome) → book_outcome s plan (length buffer) ≡ o → (r : Booked) (left : Bytes)
      → (made_by (judgement s plan) (wake_book s plan) o b).answer ≡ r → front buffer (made_by (judgement s plan) (wake_book s plan) o b).written ≡ left
      → MakesBook s plan buffer r left
  told b e o is r left answer rest =
      let made = book-by s plan (length buffer) b e ∙ ap (λ (x : Outcome). made_by (judgement s plan) (wake_book s plan) x b) is in
      (ap (λ (m : BookMade). m.answer) made ∙ answer, ap (λ (m : BookMade). front buffer m.written) made ∙ rest)

  -- the judge's refusal
  pub book-refuses : is_accepted (judge s plan).outcome ≡ false
      → MakesBook s plan buffer (record { outcome = (judge s plan).outcome; names = (judgement s plan).names; bytes = 0 }) buffer
  book-refuses refused =
      let no-book : book_outcome s plan (length buffer) ≡ (judge s plan).outcome =
      then-stays (judgement s plan).verdict.outcome _ (ap is_accepted verdict ∙ refused) ∙ verdict in
      told false (ap is_accepted no-book ∙ refused) (judge s plan).outcome no-book _ _ refl refl

  module _ (passes : Passes s plan) where
    names : (judgement s plan).names ≡ nobody
    names = else_nobody Packets s plan (passed-ran s plan passes).sheet (inl (omega (arith, ap (λ (o : Outcome). o.number) (passed-whole s plan passes))))

    behind : book_outcome s plan (length buffer) ≡ given 22 0 (ltb (length buffer) (length (wake_book s plan)))
    behind = then-goes (judgement s plan).verdict.outcome _ (ap is_accepted verdict ∙ passes)

    pub book-makes : length (wake_book s plan) ≤ length buffer
        → MakesBook s plan buffer (record { outcome = accepted; names = nobody; bytes = length (wake_book s plan) }) (front buffer (wake_book s plan))
    book-makes room =
        let fits : book_outcome s plan (length buffer) ≡ accepted =
        behind ∙ ap (λ (b : Bool). given 22 0 b) (le-ltb (length buffer) (length (wake_book s plan)) room) in
        told true (ap is_accepted fits) accepted fits _ _
        (ap (λ (n : Names). record { outcome = accepted; names = n; bytes = length (wake_book s plan) }) names) refl

    pub book-short : length buffer < length (wake_book s plan)
        → MakesBook s plan buffer (record { outcome = record { number = 22; place = 0 }; names = nobody; bytes = 0 }) buffer
    book-short short =
        let is : book_outcome s plan (length buffer) ≡ record { number = 22; place = 0 } =
        behind ∙ ap (λ (b : Bool). given 22 0 b) (lt-ltb (length buffer) (length (wake_book s plan)) short) in
        told false (ap is_accepted is) (record { number = 22; place = 0 }) is _ _
        (ap (λ (n : Names). record { outcome = record { number = 22; place = 0 }; names = n; bytes = 0 }) names) refl

-- what a probe reads in the book
module _ (s plan : Bytes) (k slot : ℕ) (inside : k < probe_count s) where
  pub sendings-tell : among (slot + 1) (sendings (wake_book s plan) k) ≡ among (k + 2) (get_or (slots_of_plan plan) slot [])
  sendings-tell = ap (among (slot + 1)) (sends-read s plan k inside) ∙ sends-tell plan (k + 2) slot

  pub receivings-tell : among (slot + 1) (receivings (wake_book s plan) k)
      ≡ some_sender (λ u. eqb (parent_of s u) (k + 2)) (get_or (slots_of_plan plan) slot [])
  receivings-tell = ap (among (slot + 1)) (hears-read s plan k inside) ∙ hears-tell s plan (k + 2) slot

-- the lists of the definition rise, and so do those that are read
rises : (passes : List ℕ → Bool) (slots : List (List ℕ)) → Rising (slots_where passes 1 slots)
rises passes slots = (where-rising passes 1 slots, λ i h. (where_below passes 1 slots i h).0)

module _ (s plan : Bytes) (k : ℕ) (inside : k < probe_count s) where
  pub lists-rise : Rising (sendings (wake_book s plan) k) × Rising (receivings (wake_book s plan) k)
  lists-rise = (
    subst Rising (sym (sends-read s plan k inside)) (rises _ (slots_of_plan plan)),
    subst Rising (sym (hears-read s plan k inside)) (rises _ (slots_of_plan plan)),
  )

module _ (s plan : Bytes) (passes : Passes s plan) (k : ℕ) (inside : k < probe_count s) where
  probe : is_probe (probe_count s) (k + 2) ≡ true
  probe = probe-yes (probe_count s) (k + 2) (omega arith) (omega (arith, inside))

  pub sendings-branch : length (sendings (wake_book s plan) k) ≡ branch_packets (probe_count s) (parent_of s) (packets_of s) (k + 2)
  sendings-branch = ap length (sends-read s plan k inside) ∙ sends-length s plan passes (k + 2) probe

  pub receivings-branch : length (receivings (wake_book s plan) k) + packets_of s (k + 2) ≡ branch_packets (probe_count s) (parent_of s) (packets_of s) (k + 2)
  receivings-branch = ap (λ (l : List ℕ). length l + packets_of s (k + 2)) (hears-read s plan k inside) ∙ hears-rest s plan passes (k + 2) probe

pub sheet-bytes-decide-book : (s plan : Bytes) (room : ℕ) → book_made (take deciding_sheet s) plan room ≡ book_made s plan room
sheet-bytes-decide-book s plan room = book-decided-sheet s plan deciding_sheet (le_refl deciding_sheet) room

pub plan-bytes-decide-book : (s : Bytes) (plan : List Byte) (room : ℕ) → book_made s (take deciding_plan (numbers plan)) room ≡ book_made s (numbers plan) room
plan-bytes-decide-book s plan room = book-decided-plan s (numbers plan) (bytes_below plan) deciding_plan (le_refl deciding_plan) room
