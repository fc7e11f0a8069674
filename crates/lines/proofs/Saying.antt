-- Bytes said behind a text that has room for so many: what is cut off once is cut off at last, by recursion on the room and the text.
use mathlib.Core.Path.{◌≡◌, refl, sym, ap, ◌∙◌, subst}
use mathlib.Core.List.{List, [], ◌∷◌, ◌++◌, append-nil, append_assoc}
use Prim.Native.Nat.{ℕ, zero, suc, ◌+◌, ◌-◌, ◌≤◌, min}
use native.Mathlib.Omega.{arith}
use lib.ListN.{length, take, length-append}
use lib.Seq.{length-take-le, take_at, take_all}
use Rattle.std.proofs.Math.Seq.{take-append-add}
use Rattle.std.proofs.lemmas.List.{take_min}
use Rattle.lines.specs.Text.{Says}

cut-once : (room : ℕ) (text bytes : List ℕ) → take room (take room text ++ bytes) ≡ take room (text ++ bytes)
cut-once zero text bytes = refl
cut-once (suc room) [] bytes = refl
cut-once (suc room) (x ∷ text) bytes = ap (λ (l : List ℕ). x ∷ l) (cut-once room text bytes)

-- bytes behind bytes
pub say-more : {room : ℕ} {text mid after xs ys : List ℕ} → Says room text xs mid → Says room mid ys after → Says room text (xs ++ ys) after
say-more {room} {text} {mid} {after} {xs} {ys} p q =
    record {
      behind =
          q.behind
          ∙ ap (λ (l : List ℕ). take room (l ++ ys)) p.behind
          ∙ cut-once room (text ++ xs) ys
          ∙ ap (take room) (append_assoc text xs ys);
    }

-- no bytes, behind what was said
pub say-nothing : {room : ℕ} {text bytes after : List ℕ} → Says room text bytes after → Says room after [] after
say-nothing {room} {text} {bytes} {after} p =
    record {
      behind =
          p.behind
          ∙ ap (take room) (sym (append-nil (text ++ bytes)))
          ∙ sym (cut-once room (text ++ bytes) [])
          ∙ ap (λ (l : List ℕ). take room (l ++ [])) (sym p.behind);
    }

-- the same bytes by another name
pub say_same : {room : ℕ} {text after bytes words : List ℕ} → bytes ≡ words → Says room text bytes after → Says room text words after
say_same {room} {text} {after} e = subst (λ (b : List ℕ). Says room text b after) e

-- bytes that have room behind nothing
pub said-all : {room : ℕ} {before bytes text : List ℕ} → length bytes ≤ room → before ≡ [] → Says room before bytes text → text ≡ bytes
said-all {room} {bytes = bytes} short none said = said.behind ∙ ap (λ (l : List ℕ). take room (l ++ bytes)) none ∙ take_all room bytes short

-- the first bytes of a piece, as many as there is room for, written behind those that stand
pub say-written : (room at n : ℕ) (stands written rest piece text : List ℕ) → length stands ≡ room → at ≤ room → n ≡ min (length piece) (room - at)
    → written ≡ take n piece → take at stands ≡ text → Says room text piece (take (at + n) (take at stands ++ (written ++ rest)))
say-written room at n stands written rest piece text long within few is view =
    let text-long : length (take at stands) ≡ at = length-take-le at stands (omega (arith, long, within)) in
    let written-long : length written ≡ n = ap length is ∙ length-take-le n piece (omega (arith, few)) in
    let whole : room ≡ length (take at stands) + (room - at) = omega (arith, text-long, within) in
    let least : n ≡ min (room - at) (length piece) = omega (arith, few) in
    let all : take (at + n) (take at stands ++ (written ++ rest)) ≡ take room (take at stands ++ piece) =
    ap (take (at + n)) (sym (append_assoc (take at stands) written rest))
    ∙ take_at (take at stands ++ written) rest (at + n) (length-append (take at stands) written ∙ omega (arith, text-long, written-long))
    ∙ ap (λ (l : List ℕ). take at stands ++ l) (is ∙ ap (λ (k : ℕ). take k piece) least ∙ take_min (room - at) piece)
    ∙ sym (ap (λ (k : ℕ). take k (take at stands ++ piece)) whole ∙ take-append-add (take at stands) piece (room - at)) in
    record { behind = all ∙ ap (λ (l : List ℕ). take room (l ++ piece)) view }
