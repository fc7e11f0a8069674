-- Bytes put at a place of a buffer, one part behind the other: by recursion on the bytes.
use mathlib.Core.Path.{◌≡◌, refl, sym, ap, ap₂, ◌∙◌, subst}
use mathlib.Core.List.{List, [], ◌∷◌, ◌++◌}
use Prim.Native.Nat.{ℕ, suc, ◌+◌, ◌≤◌, ◌<◌}
use native.Mathlib.Nat.{add-zero}
use native.Mathlib.Numerals.{add-one}
use native.Mathlib.Omega.{arith}
use lib.ListN.{length, get_or, take, set, length-append}
use lib.Seq.{sets, length-sets, take-suc, take_all}
use borrow.Author.Tests.{le-leb, lt-leb}
use Rattle.lines.specs.Line.{Put, fitting}

sets-append : (l : List ℕ) (i : ℕ) (xs ys : List ℕ) → sets l i (xs ++ ys) ≡ sets (sets l i xs) (i + length xs) ys
sets-append l i [] ys = ap (λ (k : ℕ). sets l k ys) (sym (add-zero i))
sets-append l i (x ∷ xs) ys =
    let along : suc i + length xs ≡ i + suc (length xs) = omega arith in
    sets-append (set l i x) (suc i) xs ys ∙ ap (λ (k : ℕ). sets (sets (set l i x) (suc i) xs) k ys) along

-- nothing, and one byte
pub put-none : (l : List ℕ) (at : ℕ) (bytes : List ℕ) → bytes ≡ [] → Put l at bytes l at
put-none l at bytes e =
    subst (λ (b : List ℕ). Put l at b l at) (sym e) (record { ends = sym (add-zero at); wrote = refl })

pub put_one : (l : List ℕ) (at b : ℕ) → Put l at (b ∷ []) (set l at b) (at + 1)
put_one l at b = record { ends = refl; wrote = refl }

-- bytes behind bytes
pub put-more : {l mid after xs ys : List ℕ} {at next end : ℕ} → Put l at xs mid next → Put mid next ys after end → Put l at (xs ++ ys) after end
put-more {l} {mid} {after} {xs} {ys} {at} {next} {end} p q =
    record {
      ends = omega (arith, p.ends, q.ends, length-append xs ys);
      wrote = q.wrote ∙ ap₂ (λ (m : List ℕ) (k : ℕ). sets m k ys) p.wrote p.ends ∙ sym (sets-append l at xs ys);
    }

-- the buffer keeps its length
pub put-long : {l after bytes : List ℕ} {at end : ℕ} → Put l at bytes after end → length after ≡ length l
put-long {l} {bytes} {at} p = ap length p.wrote ∙ length-sets l at bytes

-- the next byte of a text, and all of them
pub put_next : (l mid s : List ℕ) (at i : ℕ) → i < length s → Put l at (take i s) mid (at + i)
    → Put l at (take (i + 1) s) (set mid (at + i) (get_or s i 0)) (at + (i + 1))
put_next l mid s at i h p =
    let longer : take (i + 1) s ≡ take i s ++ (get_or s i 0 ∷ []) = rw (add-one i) (take-suc s i 0 h) in
    let along : at + i + 1 ≡ at + (i + 1) = omega arith in
    subst (λ (k : ℕ). Put l at (take (i + 1) s) (set mid (at + i) (get_or s i 0)) k) along
    (subst (λ (b : List ℕ). Put l at b (set mid (at + i) (get_or s i 0)) (at + i + 1)) (sym longer)
    (put-more p (put_one mid (at + i) (get_or s i 0))))

pub put_all : (l out s : List ℕ) (at i end : ℕ) → length s ≤ i → Put l at (take i s) out end → Put l at s out end
put_all l out s at i end h p = subst (λ (b : List ℕ). Put l at b out end) (take_all i s h) p

pub put-start : (l s : List ℕ) (at : ℕ) → Put l at (take 0 s) l (at + 0)
put-start l s at = record { ends = refl; wrote = refl }

-- bytes that are one byte, or end in one
pub put_byte : (l bytes : List ℕ) (at b : ℕ) → bytes ≡ b ∷ [] → Put l at bytes (set l at b) (at + 1)
put_byte l bytes at b e = subst (λ (s : List ℕ). Put l at s (set l at b) (at + 1)) (sym e) (put_one l at b)

pub put_last : (l mid xs bytes : List ℕ) (at next b : ℕ) → Put l at xs mid next → bytes ≡ xs ++ (b ∷ []) → Put l at bytes (set mid next b) (next + 1)
put_last l mid xs bytes at next b p e =
    subst (λ (s : List ℕ). Put l at s (set mid next b) (next + 1)) (sym e) (put-more p (put_one mid next b))

-- nothing, where the bytes do not fit, and all of them, where they do
pub put-short : (l : List ℕ) (at : ℕ) (bytes : List ℕ) → length l < at + length bytes → Put l at (fitting l at bytes) l at
unfolding fitting
put-short l at bytes h = put-none l at (fitting l at bytes) (rw (lt-leb (at + length bytes) (length l) h))

fitted : (l : List ℕ) (at : ℕ) (bytes : List ℕ) → at + length bytes ≤ length l → fitting l at bytes ≡ bytes
unfolding fitting
fitted l at bytes h = rw (le-leb (at + length bytes) (length l) h)

pub put-fitting : {l after bytes : List ℕ} {at end : ℕ} → at + length bytes ≤ length l → Put l at bytes after end → Put l at (fitting l at bytes) after end
put-fitting {l} {after} {bytes} {at} {end} h p = subst (λ (b : List ℕ). Put l at b after end) (sym (fitted l at bytes h)) p

pub put-fitted : {l after bytes : List ℕ} {at end : ℕ} → at + length bytes ≤ length l → Put l at (fitting l at bytes) after end → Put l at bytes after end
put-fitted {l} {after} {bytes} {at} {end} h p = subst (λ (b : List ℕ). Put l at b after end) (fitted l at bytes h) p
