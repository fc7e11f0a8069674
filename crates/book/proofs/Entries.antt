-- A book in the making: the two lists of each entry, each in room that is filled from its front. A change in one list leaves the parts before it and
-- behind it alone, by recursion on how many entries there are.
use mathlib.Core.Path.{◌≡◌, refl, sym, ap, ap₂, ◌∙◌}
use mathlib.Core.List.{List, [], ◌∷◌, ◌++◌, append_assoc, append-nil}
use mathlib.Core.Logic.{◌≢◌, ⊎_elim}
use Prim.Native.Nat.{ℕ, zero, suc, ◌+◌, ◌*◌, ◌≤◌, ◌<◌}
use native.Mathlib.Nat.{not-suc-le-zero}
use native.Mathlib.Omega.{arith}
use lib.ListN.{length, take, drop, length-append, length-drop, drop_of_length-le}
use lib.Seq.{drop-append-le, drop-drop, take-add}
use Rattle.meaning.specs.Words.{sum, in_turn}
use Rattle.meaning.specs.Book.{counted}
use Rattle.laws.proofs.Turns.{below-or-last}
use Rattle.laws.proofs.InTurn.{turn-same}
use Rattle.reader.specs.Noted.{noted}
use Rattle.book.specs.Layout.{begun}
use Rattle.limits.proofs.BookRoom.{counted-length}
use Rattle.book.proofs.OneList.{noted-list, begun-list}

-- a list in room that had these bytes behind its count
unfoldable pub filling : (list room : List ℕ) → List ℕ
filling list room = counted list ++ drop (2 * length list) room

pub filling-length : (list room : List ℕ) (n : ℕ) → length list ≤ n → length room ≡ 2 * n → length (filling list room) ≡ 2 + 2 * n
unfolding filling
filling-length list room n h e =
    omega (arith, length-append (counted list) (drop (2 * length list) room), counted-length list, length-drop (2 * length list) room)

-- a list that fills its room
pub filling-full : (list room : List ℕ) → length room ≡ 2 * length list → filling list room ≡ counted list
unfolding filling
filling-full list room e =
    let all : length room ≤ 2 * length list = omega arith in
    let none : drop (2 * length list) room ≡ [] = drop_of_length-le room all in
    ap (λ (l : List ℕ). counted list ++ l) none ∙ append-nil (counted list)

-- a number more
pub filling-noted : (before list room rest : List ℕ) (at number n : ℕ) → at ≡ length before → length list < n → n ≤ 65535 → length room ≡ 2 * n
    → noted at number (before ++ (filling list room ++ rest)) ≡ before ++ (filling (list ++ (number ∷ [])) room ++ rest)
unfolding filling
filling-noted before list room rest at number n here fits few e =
    let left : List ℕ = drop (2 * length list) room in
    let room-left : 2 ≤ length left = omega (arith, length-drop (2 * length list) room) in
    let more : 2 * length list + 2 ≡ 2 * length (list ++ (number ∷ [])) = omega (arith, length-append list (number ∷ [])) in
    let next : drop 2 left ≡ drop (2 * length (list ++ (number ∷ []))) room = drop-drop 2 (2 * length list) room ∙ ap (λ (k : ℕ). drop k room) more in
    ap₂ (λ (k : ℕ) (l : List ℕ). noted k number (before ++ l)) here (append_assoc (counted list) left rest)
    ∙ noted-list before list (left ++ rest) number (omega arith) (omega (arith, length-append left rest))
    ∙ ap (λ (l : List ℕ). before ++ (counted (list ++ (number ∷ [])) ++ l))
    (drop-append-le 2 left rest room-left ∙ ap (λ (l : List ℕ). l ++ rest) next)
    ∙ ap (λ (l : List ℕ). before ++ l) (sym (append_assoc (counted (list ++ (number ∷ []))) (drop (2 * length (list ++ (number ∷ []))) room) rest))

-- an empty list
pub filling-begun : (before room rest : List ℕ) (at : ℕ) → at ≡ length before → 2 ≤ length room
    → begun at (before ++ (room ++ rest)) ≡ before ++ (filling [] (drop 2 room) ++ rest)
unfolding filling
filling-begun before room rest at here h =
    ap (λ (k : ℕ). begun k (before ++ (room ++ rest))) here ∙ begun-list before (room ++ rest) (omega (arith, length-append room rest))
    ∙ ap (λ (l : List ℕ). before ++ (counted [] ++ l)) (drop-append-le 2 room rest h)
    ∙ ap (λ (l : List ℕ). before ++ l) (sym (append_assoc (counted []) (drop 2 room) rest))

-- the length of parts, from the length of each
pub parts-length : (f : ℕ → List ℕ) (size : ℕ → ℕ) (m : ℕ) → ((j : ℕ) → j < m → length (f j) ≡ size j) → length (in_turn m f) ≡ sum m size
unfolding in_turn sum
parts-length f size zero long = refl
parts-length f size (suc m) long =
    omega (arith, length-append (in_turn m f) (f m), parts-length f size m (λ j h. long j (omega arith)), long m (omega arith))

-- the front of a buffer, cut into parts
pub parts_cut : (buffer : List ℕ) (size : ℕ → ℕ) (m : ℕ) → in_turn m (λ k. take (size k) (drop (sum k size) buffer)) ≡ take (sum m size) buffer
unfolding in_turn sum
parts_cut buffer size zero = refl
parts_cut buffer size (suc m) =
    ap (λ (l : List ℕ). l ++ take (size m) (drop (sum m size) buffer)) (parts_cut buffer size m) ∙ sym (take-add (sum m size) (size m) buffer)

-- what stands behind part k, where only that part changes
pub record Behind (f : ℕ → List ℕ) (m k : ℕ) : Type 0 where
  pub behind : List ℕ
  pub changed : (g : ℕ → List ℕ) → ((j : ℕ) → j < m → j ≢ k → g j ≡ f j) → in_turn m g ≡ in_turn k f ++ (g k ++ behind)

pub one-part : (f : ℕ → List ℕ) (m k : ℕ) → k < m → Behind f m k
unfolding in_turn
one-part f zero k h = absurd (not-suc-le-zero h)
one-part f (suc m) k h =
    ⊎_elim
    (λ (l : k < m).
    let less = one-part f m k l in
    record {
      behind = less.behind ++ f m;
      changed = λ g same.
          ap₂ ◌++◌ (less.changed g (λ j hj. same j (omega arith))) (same m (omega arith) (λ e. omega arith))
          ∙ append_assoc (in_turn k f) (g k ++ less.behind) (f m)
          ∙ ap (λ (l : List ℕ). in_turn k f ++ l) (append_assoc (g k) less.behind (f m));
    })
    (λ (l : k ≡ m).
    record {
      behind = [];
      changed = λ g same.
          ap (λ (l : List ℕ). l ++ g m) (turn-same m g f (λ j hj. same j (omega arith) (λ e. omega arith)))
          ∙ ap (λ (j : ℕ). in_turn j f ++ g j) (sym l)
          ∙ ap (λ (l : List ℕ). in_turn k f ++ l) (sym (append-nil (g k)));
    })
    (below-or-last k m h)

-- room for a list of each of p probes, for so many numbers
pub record Room (p : ℕ) (many : ℕ → ℕ) : Type 0 where
  pub bytes : ℕ → List ℕ
  pub long : (k : ℕ) → k < p → length (bytes k) ≡ 2 * many k
  pub few : (k : ℕ) → k < p → many k ≤ 65535

-- lists that have room
abbrev pub Fit : (p : ℕ) → (many : ℕ → ℕ) → (lists : ℕ → List ℕ) → Type 0
Fit p many lists = (k : ℕ) → k < p → length (lists k) ≤ many k

-- lists of which one has a number more
pub record OneMore (p number k : ℕ) (before after : ℕ → List ℕ) : Type 0 where
  pub within : k < p
  pub more : after k ≡ before k ++ (number ∷ [])
  pub others : (j : ℕ) → j < p → j ≢ k → after j ≡ before j

-- a book in the making: of each of p probes the list of what it sends and of what it hears, so far, and what stands behind them
module _ (p : ℕ) (sent heard : ℕ → ℕ) (a : Room p sent) (b : Room p heard) (tail : List ℕ) where
  abbrev entry : (sends hears : ℕ → List ℕ) → (k : ℕ) → List ℕ
  entry sends hears k = filling (sends k) (a.bytes k) ++ filling (hears k) (b.bytes k)

  unfoldable pub making : (sends hears : ℕ → List ℕ) → List ℕ
  making sends hears = in_turn p (entry sends hears) ++ tail

  abbrev size : ℕ → ℕ
  size k = 4 + 2 * sent k + 2 * heard k

  pub making-same : (l l' m m' : ℕ → List ℕ) → ((k : ℕ) → k < p → l k ≡ l' k) → ((k : ℕ) → k < p → m k ≡ m' k) → making l m ≡ making l' m'
  unfolding making
  making-same l l' m m' e q =
      ap (λ (x : List ℕ). x ++ tail)
      (turn-same p (entry l m) (entry l' m')
      (λ k h. ap₂ (λ (x y : List ℕ). filling x (a.bytes k) ++ filling y (b.bytes k)) (e k h) (q k h)))

  -- a change within one entry
  entry-change : (l l' m m' : ℕ → List ℕ) (k : ℕ) → k < p → ((j : ℕ) → j < p → j ≢ k → l' j ≡ l j) → ((j : ℕ) → j < p → j ≢ k → m' j ≡ m j)
      → (change : List ℕ → List ℕ)
      → ((rest : List ℕ) → change (in_turn k (entry l m) ++ (entry l m k ++ rest)) ≡ in_turn k (entry l m) ++ (entry l' m' k ++ rest))
      → change (making l m) ≡ making l' m'
  unfolding making
  entry-change l l' m m' k h e q change within =
      let one = one-part (entry l m) p k h in
      let before : List ℕ = in_turn k (entry l m) in
      let there : (x : List ℕ) → (before ++ (x ++ one.behind)) ++ tail ≡ before ++ (x ++ (one.behind ++ tail)) =
      λ x. append_assoc before (x ++ one.behind) tail ∙ ap (λ (y : List ℕ). before ++ y) (append_assoc x one.behind tail) in
      ap (λ (x : List ℕ). change (x ++ tail)) (one.changed (entry l m) (λ j hj other. refl))
      ∙ ap change (there (entry l m k))
      ∙ within (one.behind ++ tail)
      ∙ sym (there (entry l' m' k))
      ∙ ap (λ (x : List ℕ). x ++ tail)
      (sym
      (one.changed (entry l' m')
      (λ j hj other. ap₂ (λ (x y : List ℕ). filling x (a.bytes j) ++ filling y (b.bytes j)) (e j hj other) (q j hj other))))

  module _ (l m : ℕ → List ℕ) (fit : Fit p sent l) (fit₂ : Fit p heard m) where
    entry_length : (k : ℕ) → k < p → length (entry l m k) ≡ size k
    entry_length k h =
        omega (
          arith,
          length-append (filling (l k) (a.bytes k)) (filling (m k) (b.bytes k)),
          filling-length (l k) (a.bytes k) (sent k) (fit k h) (a.long k h),
          filling-length (m k) (b.bytes k) (heard k) (fit₂ k h) (b.long k h),
        )

    entries-length : (k : ℕ) → k ≤ p → length (in_turn k (entry l m)) ≡ sum k size
    entries-length k h = parts-length (entry l m) size k (λ j hj. entry_length j (omega arith))

    pub making-length : length (making l m) ≡ sum p size + length tail
    unfolding making
    making-length = omega (arith, length-append (in_turn p (entry l m)) tail, entries-length p (omega arith))

    -- a probe sends in one slot more
    pub sends-noted : (l' : ℕ → List ℕ) (number k : ℕ) → OneMore p number k l l' → length (l k) < sent k
        → noted (sum k size) number (making l m) ≡ making l' m
    sends-noted l' number k one room =
        entry-change l l' m m k one.within one.others (λ _ _ _. refl) (noted (sum k size) number)
        (λ rest.
        let before : List ℕ = in_turn k (entry l m) in
        let second : List ℕ = filling (m k) (b.bytes k) in
        ap (λ (x : List ℕ). noted (sum k size) number (before ++ x)) (append_assoc (filling (l k) (a.bytes k)) second rest)
        ∙ filling-noted before (l k) (a.bytes k) (second ++ rest) (sum k size) number (sent k) (sym (entries-length k (omega (arith, one.within)))) room
        (a.few k one.within) (a.long k one.within)
        ∙ ap (λ (x : List ℕ). before ++ (filling x (a.bytes k) ++ (second ++ rest))) (sym one.more)
        ∙ ap (λ (x : List ℕ). before ++ x) (sym (append_assoc (filling (l' k) (a.bytes k)) second rest)))

    -- or hears in one
    pub hears-noted : (m' : ℕ → List ℕ) (number k : ℕ) → OneMore p number k m m' → length (m k) < heard k
        → noted (sum k size + 2 + 2 * sent k) number (making l m) ≡ making l m'
    hears-noted m' number k one room =
        let at : ℕ = sum k size + 2 + 2 * sent k in
        entry-change l l m m' k one.within (λ _ _ _. refl) one.others (noted at number)
        (λ rest.
        let before : List ℕ = in_turn k (entry l m) in
        let first : List ℕ = filling (l k) (a.bytes k) in
        let there : (x : List ℕ) → before ++ ((first ++ x) ++ rest) ≡ (before ++ first) ++ (x ++ rest) =
        λ x. ap (λ (y : List ℕ). before ++ y) (append_assoc first x rest) ∙ sym (append_assoc before first (x ++ rest)) in
        let here : at ≡ length (before ++ first) =
        omega (
          arith,
          length-append before first,
          entries-length k (omega (arith, one.within)),
          filling-length (l k) (a.bytes k) (sent k) (fit k one.within) (a.long k one.within),
        ) in
        ap (noted at number) (there (filling (m k) (b.bytes k)))
        ∙ filling-noted (before ++ first) (m k) (b.bytes k) rest at number (heard k) here room (b.few k one.within) (b.long k one.within)
        ∙ ap (λ (x : List ℕ). (before ++ first) ++ (filling x (b.bytes k) ++ rest)) (sym one.more)
        ∙ sym (there (filling (m' k) (b.bytes k))))

  -- where every list fills its room, the entries are the lists and nothing else
  pub making-full : (l m : ℕ → List ℕ) → ((k : ℕ) → k < p → length (l k) ≡ sent k) → ((k : ℕ) → k < p → length (m k) ≡ heard k)
      → making l m ≡ in_turn p (λ k. counted (l k) ++ counted (m k)) ++ tail
  unfolding making
  making-full l m e q =
      ap (λ (x : List ℕ). x ++ tail)
      (turn-same p (entry l m) (λ k. counted (l k) ++ counted (m k))
      (λ k h.
      ap₂ ◌++◌ (filling-full (l k) (a.bytes k) (omega (arith, a.long k h, e k h))) (filling-full (m k) (b.bytes k) (omega (arith, b.long k h, q k h)))))
