-- The senders of a slot in text, sender by sender: by recursion on the senders.
use mathlib.Core.Path.{◌≡◌, refl, sym, ap, ◌∙◌, subst}
use mathlib.Core.Bool.{Bool, true, false, not}
use mathlib.Core.List.{List, [], ◌∷◌, ◌++◌, append-nil, append_assoc}
use Prim.Native.Nat.{ℕ, suc, ◌+◌, ◌-◌, ◌≤◌, ◌<◌}
use native.Mathlib.Numerals.{add-one}
use native.Mathlib.Omega.{arith}
use borrow.Author.Tests.{le-leb, lt-leb, leb-true, leb-false, not-true, not-false}
use lib.Dec.{leb}
use lib.ListN.{length, get_or, take, drop, length-append, take-append-drop, drop_of_length-le}
use lib.Seq.{take-suc, take_all, drop-cons}
use Rattle.meaning.specs.Lister.{decimal, said, senders_text, slot_line}
use Rattle.lines.specs.Line.{Put}
use Rattle.lines.proofs.Putting.{put-none, put-more}
use Rattle.lines.proofs.Lined.{sender-length, slot-length}

pub senders-append : (xs ys : List ℕ) → senders_text (xs ++ ys) ≡ senders_text xs ++ senders_text ys
unfolding senders_text
senders-append [] ys = refl
senders-append (x ∷ xs) ys =
    ap (λ (l : List ℕ). said "" x ++ l) (senders-append xs ys) ∙ sym (append_assoc (said "" x) (senders_text xs) (senders_text ys))

pub senders-one : (v : ℕ) → senders_text (v ∷ []) ≡ said "" v
unfolding senders_text
senders-one v = append-nil (said "" v)

senders-cons : (v : ℕ) (s : List ℕ) → length (senders_text (v ∷ s)) ≡ 1 + length (decimal 5 v) + length (senders_text s)
unfolding senders_text
senders-cons v s = length-append (said "" v) (senders_text s) ∙ ap (λ (k : ℕ). k + length (senders_text s)) (sender-length v)

none-long : length (senders_text []) ≡ 0
unfolding senders_text
none-long = refl

-- the first i senders and one more
senders-next : (s : List ℕ) (i : ℕ) → i < length s → senders_text (take (i + 1) s) ≡ senders_text (take i s) ++ said "" (get_or s i 0)
senders-next s i h =
    let longer : take (i + 1) s ≡ take i s ++ (get_or s i 0 ∷ []) = rw (add-one i) (take-suc s i 0 h) in
    ap senders_text longer ∙ senders-append (take i s) (get_or s i 0 ∷ []) ∙ ap (λ (l : List ℕ). senders_text (take i s) ++ l) (senders-one (get_or s i 0))

-- the sender at i and those behind it
senders-drop : (s : List ℕ) (i : ℕ) → i < length s
    → length (senders_text (drop i s)) ≡ 1 + length (decimal 5 (get_or s i 0)) + length (senders_text (drop (i + 1) s))
senders-drop s i h =
    ap (λ (l : List ℕ). length (senders_text l)) (drop-cons s i 0 h)
    ∙ senders-cons (get_or s i 0) (drop (suc i) s)
    ∙ ap (λ (k : ℕ). 1 + length (decimal 5 (get_or s i 0)) + length (senders_text (drop k s))) (sym (add-one i))

-- there is room for the sender at i
pub senders-room : (s : List ℕ) (i v : ℕ) → i < length s → v ≡ get_or s i 0 → length (senders_text (take i s)) + length (said "" v) ≤ length (senders_text s)
senders-room s i v h e =
    let parts =
    ap (λ (l : List ℕ). length (senders_text l)) (sym (take-append-drop i s))
    ∙ ap length (senders-append (take i s) (drop i s))
    ∙ length-append (senders_text (take i s)) (senders_text (drop i s)) in
    omega (arith, parts, senders-drop s i h, sender-length v, ap (λ (k : ℕ). length (decimal 5 k)) e)

pub senders-start : (l s : List ℕ) (at : ℕ) → Put l at (senders_text (take 0 s)) l at
unfolding senders_text
senders-start l s at = put-none l at [] refl

pub senders-put : {l mid after : List ℕ} {at next end : ℕ} (s : List ℕ) (i v : ℕ) → i < length s → v ≡ get_or s i 0
    → Put l at (senders_text (take i s)) mid next → Put mid next (said "" v) after end → Put l at (senders_text (take (i + 1) s)) after end
senders-put {l} {after} {at} {end} s i v h e p q =
    subst (λ (b : List ℕ). Put l at b after end)
    (ap (λ (k : ℕ). senders_text (take i s) ++ said "" k) e ∙ sym (senders-next s i h)) (put-more p q)

pub senders-all : {l after : List ℕ} {at end : ℕ} (s : List ℕ) (i : ℕ) → length s ≤ i
    → Put l at (senders_text (take i s)) after end → Put l at (senders_text s) after end
senders-all {l} {after} {at} {end} s i h p = subst (λ (b : List ℕ). Put l at (senders_text b) after end) (take_all i s h) p

module _ (number : ℕ) (s : List ℕ) (room : ℕ) where
  -- what is left of the room behind the number, the colon, the line's end and the first i senders
  pub RoomLeft : ℕ → ℕ → Type 0
  RoomLeft left i = left + length (slot_line number s) ≡ room + length (senders_text (drop i s))

  pub fits-never : (d : ℕ) → d ≡ length (decimal 5 number) → room < 2 + d → false ≡ leb (length (slot_line number s)) room
  fits-never d e h = sym (lt-leb (length (slot_line number s)) room (omega (arith, slot-length number s)))

  pub fits-start : (d : ℕ) → d ≡ length (decimal 5 number) → 2 + d ≤ room → RoomLeft (room - (2 + d)) 0
  unfolding RoomLeft
  fits-start d e h =
      let fits : room - (2 + d) + length (slot_line number s) ≡ room + length (senders_text s) = omega (arith, slot-length number s) in
      fits

  module _ (left i v d : ℕ) (h : i < length s) (e : v ≡ get_or s i 0) (q : d ≡ length (decimal 5 v)) (fits : RoomLeft left i) where
    abbrev digits : d ≡ length (decimal 5 (get_or s i 0))
    digits = q ∙ ap (λ (k : ℕ). length (decimal 5 k)) e

    pub fits-short : left < 1 + d → false ≡ leb (length (slot_line number s)) room
    unfolding RoomLeft
    fits-short short = sym (lt-leb (length (slot_line number s)) room (omega (arith, fits, digits, senders-drop s i h)))

    pub fits_next : 1 + d ≤ left → RoomLeft (left - (1 + d)) (i + 1)
    unfolding RoomLeft
    fits_next enough = omega (arith, fits, digits, senders-drop s i h)

  pub fits_all : (left i : ℕ) → length s ≤ i → RoomLeft left i → true ≡ leb (length (slot_line number s)) room
  unfolding RoomLeft
  fits_all left i h fits =
      let none = ap (λ (l : List ℕ). length (senders_text l)) (drop_of_length-le s {i = i} h) ∙ none-long in
      sym (le-leb (length (slot_line number s)) room (omega (arith, fits, none)))

  -- what the test showed
  module _ (r : Bool) (is : r ≡ leb (length (slot_line number s)) room) where
    pub slot-room : not r ≡ false → length (slot_line number s) ≤ room
    slot-room h = leb-true (length (slot_line number s)) room (sym is ∙ not-false r h)

    pub slot-short : not r ≡ true → room < length (slot_line number s)
    slot-short h = leb-false (length (slot_line number s)) room (sym is ∙ not-true r h)
