-- A line in a buffer that has room for it or not, and how long each line is.
use mathlib.Core.Path.{◌≡◌, refl, sym, ap, ◌∙◌, subst}
use mathlib.Core.Bool.{Bool, cond}
use mathlib.Core.List.{List, ◌∷◌, ◌++◌}
use Prim.Native.String.{String}
use Prim.Native.Nat.{ℕ, suc, ◌+◌, ◌≤◌, ◌<◌}
use native.Mathlib.Nat.{zero-add}
use native.Mathlib.Omega.{arith}
use borrow.Author.Tests.{le-leb, lt-leb}
use lib.ListN.{length, take, drop, length-append}
use lib.Seq.{sets-eq, length-take-le}
use Rattle.meaning.specs.Plan.{front}
use Rattle.meaning.specs.Lister.{text, decimal, said, senders_text, slot_lines, numbers_line, slot_line}
use Rattle.lines.specs.Line.{line_length, line_in, Put}
use Rattle.lines.proofs.Putting.{put-long}

-- what a function that writes a line answers, and the buffer afterwards
abbrev pub Lined : List ℕ → List ℕ → List ℕ → ℕ → Type 0
Lined before bytes after answer = (answer ≡ line_length before bytes) × (after ≡ line_in before bytes)

-- where the buffer is too short
pub line-short : (l bytes : List ℕ) → length l < length bytes → Lined l bytes l 0
line-short l bytes h =
    let short = lt-leb (length bytes) (length l) h in
    (ap (λ (b : Bool). cond b (length bytes) 0) (sym short), ap (λ (b : Bool). cond b (front l bytes) l) (sym short))

-- where it has room, and the bytes are put at its start
pub line-put : {l bytes after : List ℕ} {end : ℕ} → length bytes ≤ length l → Put l 0 bytes after end → Lined l bytes after end
line-put {l} {bytes} {after} {end} h p =
    let room = le-leb (length bytes) (length l) h in
    let none = zero-add (length bytes) in (
      p.ends ∙ none ∙ ap (λ (b : Bool). cond b (length bytes) 0) (sym room),
      p.wrote
          ∙ sets-eq bytes l 0 (subst (λ (k : ℕ). k ≤ length l) (sym none) h)
          ∙ ap (λ (k : ℕ). bytes ++ drop k l) none
          ∙ ap (λ (b : Bool). cond b (front l bytes) l) (sym room),
    )

-- what a function that writes an answer says of it: that it is a part of the buffer, and which
abbrev pub Answered : List ℕ → List ℕ → List ℕ → ℕ → Type 0
Answered before bytes after answer = ((answer ≤ length after) × (answer ≡ length (take answer after))) × Lined before bytes after answer

pub answered-short : (l bytes : List ℕ) → length l < length bytes → Answered l bytes l 0
answered-short l bytes h = ((omega arith, refl), line-short l bytes h)

pub answered-put : {l bytes after : List ℕ} {end : ℕ} → length bytes ≤ length l → Put l 0 bytes after end → Answered l bytes after end
answered-put {after} {end} h p =
    let within : end ≤ length after = omega (arith, p.ends, put-long p, h) in
    ((within, sym (length-take-le end after within)), line-put h p)

-- one turn of the other lines is the line of a slot
pub slot-line : (done : ℕ) (slot : List ℕ) (slots : List (List ℕ)) → slot_lines done (slot ∷ slots) ≡ slot_line (suc done) slot ++ slot_lines (suc done) slots
unfolding slot_lines
slot-line done slot slots = refl

-- how long the words of the lines are
space : length (text " ") ≡ 1
unfolding text
space = refl

pub colon : length (text ":") ≡ 1
unfolding text
colon = refl

pub newline : length (text "\n") ≡ 1
unfolding text
newline = refl

nothing : length (text "") ≡ 0
unfolding text
nothing = refl

refused : length (text "refused") ≡ 7
unfolding text
refused = refl

colours : length (text "colours") ≡ 7
unfolding text
colours = refl

slots : length (text " slots") ≡ 6
unfolding text
slots = refl

packets : length (text " packets") ≡ 8
unfolding text
packets = refl

heaviest-branch : length (text " heaviest") ≡ 9
unfolding text
heaviest-branch = refl

least-slots : length (text " least") ≡ 6
unfolding text
least-slots = refl

pub said-length : (word : String) (n : ℕ) → length (said word n) ≡ length (text word) + 1 + length (decimal 5 n)
said-length word n =
    let words = length-append (text word) (text " ") ∙ ap (λ (k : ℕ). length (text word) + k) space in
    length-append (text word ++ text " ") (decimal 5 n) ∙ ap (λ (k : ℕ). k + length (decimal 5 n)) words

pub sender-length : (v : ℕ) → length (said "" v) ≡ 1 + length (decimal 5 v)
sender-length v = said-length "" v ∙ ap (λ (k : ℕ). k + 1 + length (decimal 5 v)) nothing

pub refusal-length : (number place : ℕ) → length (said "refused" number ++ said "" place ++ text "\n") ≡ 10 + length (decimal 5 number) + length (decimal 5 place)
refusal-length number place =
    length-append (said "refused" number ++ said "" place) (text "\n")
    ∙ (omega (arith, length-append (said "refused" number) (said "" place), said-length "refused" number, sender-length place, refused, newline))

pub numbers-length : (a b c d e : ℕ) → length (numbers_line a b c d e)
    ≡ 42 + (length (decimal 5 a) + length (decimal 5 b)) + (length (decimal 5 c) + length (decimal 5 d)) + length (decimal 5 e)
unfolding numbers_line
numbers-length a b c d e =
    let two = said "colours" a ++ said " slots" b in
    let three = two ++ said " packets" c in
    let four = three ++ said " heaviest" d in
    length-append (four ++ said " least" e) (text "\n")
    ∙ (omega (
      arith,
      length-append four (said " least" e),
      length-append three (said " heaviest" d),
      length-append two (said " packets" c),
      length-append (said "colours" a) (said " slots" b),
      said-length "colours" a,
      said-length " slots" b,
      said-length " packets" c,
      said-length " heaviest" d,
      said-length " least" e,
      colours,
      slots,
      packets,
      heaviest-branch,
      least-slots,
      newline,
    ))

pub slot-length : (number : ℕ) (senders : List ℕ) → length (slot_line number senders) ≡ 2 + length (decimal 5 number) + length (senders_text senders)
unfolding slot_line
slot-length number senders =
    length-append (decimal 5 number ++ text ":" ++ senders_text senders) (text "\n")
    ∙ (omega (arith, length-append (decimal 5 number ++ text ":") (senders_text senders), length-append (decimal 5 number) (text ":"), colon, newline))
