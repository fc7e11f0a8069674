-- A buffer in which every list was begun is a book in the making whose lists are empty: the buffer is cut into entries, and each is begun by itself,
-- by recursion on how many entries there are.
use mathlib.Core.Path.{◌≡◌, refl, sym, ap, ◌∙◌}
use mathlib.Core.List.{List, [], ◌++◌, append_assoc}
use Prim.Native.Nat.{ℕ, zero, suc, ◌+◌, ◌*◌, ◌≤◌, ◌<◌}
use native.Mathlib.Omega.{arith}
use lib.ListN.{length, take, drop, length-append, length-drop, take-append-drop}
use lib.Seq.{length-take-le}
use Rattle.meaning.specs.Words.{for_each, sum, in_turn}
use Rattle.meaning.specs.Book.{counted}
use Rattle.laws.proofs.InTurn.{sum-within}
use Rattle.book.specs.Layout.{begun, all_begun}
use Rattle.book.proofs.Entries.{filling, filling-length, filling-begun, parts-length, parts_cut, Room, making}

-- an empty list, in the first part of its room
filling-apart : (x y : List ℕ) → filling [] (x ++ y) ≡ filling [] x ++ y
unfolding filling
filling-apart x y = sym (append_assoc (counted []) x y)

module _ (p : ℕ) (sent heard : ℕ → ℕ) (book : List ℕ) where
  abbrev size : ℕ → ℕ
  size k = 4 + 2 * sent k + 2 * heard k

  -- the bytes of an entry, of its first list's room, and of what stands behind that
  abbrev region : ℕ → List ℕ
  region k = take (size k) (drop (sum k size) book)

  abbrev first : ℕ → List ℕ
  first k = take (2 * sent k) (drop 2 (region k))

  abbrev second : ℕ → List ℕ
  second k = drop (2 * sent k) (drop 2 (region k))

  module _ (room : sum p size ≤ length book) (few : (k : ℕ) → k < p → sent k ≤ 65535) (few₂ : (k : ℕ) → k < p → heard k ≤ 65535) where
    region-length : (k : ℕ) → k < p → length (region k) ≡ size k
    region-length k h = length-take-le (size k) (drop (sum k size) book) (omega (arith, length-drop (sum k size) book, sum-within size k p h))

    second-length : (k : ℕ) → k < p → length (second k) ≡ 2 + 2 * heard k
    second-length k h =
        omega (arith, length-drop (2 * sent k) (drop 2 (region k)), length-drop 2 (region k), region-length k h)

    pub first-room : Room p sent
    first-room =
        record {
          bytes = first;
          long = λ k h. length-take-le (2 * sent k) (drop 2 (region k)) (omega (arith, length-drop 2 (region k), region-length k h));
          few = few;
        }

    pub second-room : Room p heard
    second-room =
        record {
          bytes = λ k. drop 2 (second k);
          long = λ k h. omega (arith, length-drop 2 (second k), second-length k h);
          few = few₂;
        }

    abbrev empty : ℕ → List ℕ
    empty k = filling [] (first k) ++ filling [] (drop 2 (second k))

    empty-length : (k : ℕ) → k < p → length (empty k) ≡ size k
    unfolding first-room second-room
    empty-length k h =
        omega (
          arith,
          length-append (filling [] (first k)) (filling [] (drop 2 (second k))),
          filling-length [] (first k) (sent k) (omega arith) (first-room.long k h),
          filling-length [] (drop 2 (second k)) (heard k) (omega arith) (second-room.long k h),
        )

    module _ (sends hears : ℕ → ℕ) (e : (k : ℕ) → k < p → sends (k + 2) ≡ sum k size)
        (q : (k : ℕ) → k < p → hears (k + 2) ≡ sum k size + 2 + 2 * sent k) where
      -- both lists of one entry
      entry-begun : (k : ℕ) → k < p → (rest : List ℕ)
          → begun (hears (k + 2)) (begun (sends (k + 2)) (in_turn k empty ++ (region k ++ rest))) ≡ in_turn k empty ++ (empty k ++ rest)
      unfolding first-room
      entry-begun k h rest =
          let before : List ℕ = in_turn k empty in
          let done : length before ≡ sum k size = parts-length empty size k (λ j hj. empty-length j (omega arith)) in
          let there : (x : List ℕ) → before ++ ((filling [] (first k) ++ x) ++ rest) ≡ (before ++ filling [] (first k)) ++ (x ++ rest) =
          λ x. ap (λ (y : List ℕ). before ++ y) (append_assoc (filling [] (first k)) x rest)
          ∙ sym (append_assoc before (filling [] (first k)) (x ++ rest)) in
          let one : begun (sends (k + 2)) (before ++ (region k ++ rest)) ≡ (before ++ filling [] (first k)) ++ (second k ++ rest) =
          filling-begun before (region k) rest (sends (k + 2)) (e k h ∙ sym done) (omega (arith, region-length k h))
          ∙ ap (λ (x : List ℕ). before ++ (filling [] x ++ rest)) (sym (take-append-drop (2 * sent k) (drop 2 (region k))))
          ∙ ap (λ (x : List ℕ). before ++ (x ++ rest)) (filling-apart (first k) (second k))
          ∙ there (second k) in
          let here : hears (k + 2) ≡ length (before ++ filling [] (first k)) =
          omega (
            arith,
            q k h,
            length-append before (filling [] (first k)),
            filling-length [] (first k) (sent k) (omega arith) (first-room.long k h),
          ) in
          ap (begun (hears (k + 2))) one
          ∙ filling-begun (before ++ filling [] (first k)) (second k) rest (hears (k + 2)) here (omega (arith, second-length k h))
          ∙ sym (there (filling [] (drop 2 (second k))))

      entries-begun : (k : ℕ) → k ≤ p → (rest : List ℕ)
          → for_each k (λ j now. begun (hears (j + 2)) (begun (sends (j + 2)) now)) (in_turn k region ++ rest) ≡ in_turn k empty ++ rest
      unfolding for_each in_turn
      entries-begun zero h rest = refl
      entries-begun (suc k) h rest =
          ap (λ (x : List ℕ). begun (hears (k + 2)) (begun (sends (k + 2)) (for_each k (λ j now. begun (hears (j + 2)) (begun (sends (j + 2)) now)) x)))
          (append_assoc (in_turn k region) (region k) rest)
          ∙ ap (λ (x : List ℕ). begun (hears (k + 2)) (begun (sends (k + 2)) x)) (entries-begun k (omega arith) (region k ++ rest))
          ∙ entry-begun k (omega arith) rest
          ∙ sym (append_assoc (in_turn k empty) (empty k) rest)

      pub all-begun : all_begun p sends hears book ≡ making p sent heard first-room second-room (drop (sum p size) book) (λ _. []) (λ _. [])
      unfolding first-room second-room all_begun making
      all-begun =
          ap (λ (x : List ℕ). for_each p (λ j now. begun (hears (j + 2)) (begun (sends (j + 2)) now)) x)
          (sym (take-append-drop (sum p size) book) ∙ ap (λ (x : List ℕ). x ++ drop (sum p size) book) (sym (parts_cut book size p)))
          ∙ entries-begun p (omega arith) (drop (sum p size) book)
