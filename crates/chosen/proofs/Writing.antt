-- Bytes written from the front of a buffer: a slot sender by sender, and bytes that are copied one by one. Each goes by what the next byte adds.
use mathlib.Core.Path.{◌≡◌, refl, sym, ap, ap₂, ◌∙◌}
use mathlib.Core.Bool.{Bool, true, false, cond}
use mathlib.Core.List.{List, [], ◌∷◌, ◌++◌, append-nil, append_assoc}
use Prim.Native.Nat.{ℕ, zero, suc, ◌+◌, ◌≤◌, ◌<◌}
use native.Mathlib.Numerals.{add-one}
use native.Mathlib.Omega.{arith}
use borrow.Author.Tests.{lt-ltb, le-ltb}
use lib.ListN.{length, get_or, drop, set, length-append, length-set}
use lib.Seq.{drop-cons, set_at, drop-set-lt}
use Rattle.meaning.specs.Words.{probes_that}
use Rattle.meaning.specs.Plan.{front}
use Rattle.laws.proofs.Lists.{length_front}
use Rattle.chosen.specs.TurnSlot.{whole}
use Rattle.chosen.specs.Kept.{Written}

-- bytes that fit, and bytes that do not
pub whole-fits : (rest bytes : List ℕ) → length bytes ≤ length rest → whole rest bytes ≡ bytes
whole-fits rest bytes h = ap (λ (b : Bool). cond b [] bytes) (le-ltb (length rest) (length bytes) h)

pub whole-short : (rest bytes : List ℕ) → length rest < length bytes → whole rest bytes ≡ []
whole-short rest bytes h = ap (λ (b : Bool). cond b [] bytes) (lt-ltb (length rest) (length bytes) h)

-- the next byte
pub set_front : (d xs : List ℕ) (v : ℕ) → length xs < length d → set (front d xs) (length xs) v ≡ front d (xs ++ (v ∷ []))
set_front d xs v h =
    ap (λ (l : List ℕ). set (xs ++ l) (length xs) v) (drop-cons d (length xs) 0 h)
    ∙ set_at xs (get_or d (length xs) 0) (drop (suc (length xs)) d) v (length xs) refl
    ∙ sym (append_assoc xs (v ∷ []) (drop (suc (length xs)) d))
    ∙ ap (λ (k : ℕ). (xs ++ (v ∷ [])) ++ drop k d) (sym (length-append xs (v ∷ []) ∙ add-one (length xs)))

-- a buffer whose first byte was overwritten is, behind new bytes, the same
pub front-over : (d : List ℕ) (a x : ℕ) (xs : List ℕ) → front (set d 0 a) (x ∷ xs) ≡ front d (x ∷ xs)
front-over d a x xs = ap (λ (l : List ℕ). (x ∷ xs) ++ l) (drop-set-lt (suc (length xs)) d 0 a (omega arith))

module _ (test : ℕ → Bool) where
  pub probes-pass : (k : ℕ) → test (k + 2) ≡ false → probes_that (k + 1) test ≡ probes_that k test
  unfolding probes_that
  probes-pass k e = rw (add-one k) (ap (λ (b : Bool). probes_that k test ++ cond b ((k + 2) ∷ []) []) e ∙ append-nil (probes_that k test))

  pub probes-put : (k : ℕ) → test (k + 2) ≡ true → probes_that (k + 1) test ≡ probes_that k test ++ ((k + 2) ∷ [])
  unfolding probes_that
  probes-put k e = rw (add-one k) (ap (λ (b : Bool). probes_that k test ++ cond b ((k + 2) ∷ []) []) e)

  pub probes-few : (k : ℕ) → length (probes_that k test) ≤ k
  unfolding probes_that
  probes-few zero = omega arith
  probes-few (suc k) =
      omega (arith, probes-few k, length-append (probes_that k test) (cond (test (k + 2)) ((k + 2) ∷ []) []), last (test (k + 2)))
    where
      last : (b : Bool) → length (cond b ((k + 2) ∷ []) []) ≤ 1
      last true = omega arith
      last false = omega arith

  -- as far as the first k probes: n senders are written, behind a count that is still 0
  pub record Writing (p : ℕ) (d rest : List ℕ) (n k : ℕ) : Type 0 where
    pub within : k ≤ p
    pub room : p < length d
    pub counted : n ≡ length (probes_that k test)
    pub wrote : rest ≡ front d (0 ∷ probes_that k test)

  pub writing_start : (p : ℕ) (d : List ℕ) → p < length d → Writing p (set d 0 0) (set d 0 0) 0 0
  unfolding probes_that
  writing_start p d h =
      record {
        within = omega arith;
        room = omega (arith, length-set d 0 0);
        counted = refl;
        wrote = set_front d [] 0 (omega arith) ∙ sym (front-over d 0 0 []);
      }

  module _ (p : ℕ) (d rest : List ℕ) (n k : ℕ) (now : Writing p d rest n k) where
    pub fewer : n ≤ k
    fewer = omega (arith, now.counted, probes-few k)

    pub long : length rest ≡ length d
    long =
        ap length now.wrote
        ∙ length_front d (0 ∷ probes_that k test) (omega (arith, probes-few k, now.room, now.within))

  module _ (p : ℕ) (d rest : List ℕ) (n k : ℕ) (now : Writing p d rest n k) (h : k < p) where
    pub writing_pass : test (k + 2) ≡ false → Writing p d rest n (k + 1)
    writing_pass e =
        record {
          within = omega arith;
          room = now.room;
          counted = now.counted ∙ ap length (sym (probes-pass k e));
          wrote = now.wrote ∙ ap (λ (l : List ℕ). front d (0 ∷ l)) (sym (probes-pass k e));
        }

    pub writing-put : test (k + 2) ≡ true → Writing p d (set rest (n + 1) (k + 2)) (n + 1) (k + 1)
    writing-put e =
        let at : n + 1 ≡ length (0 ∷ probes_that k test) = ap (λ (j : ℕ). j + 1) now.counted ∙ add-one (length (probes_that k test)) in
        record {
          within = omega arith;
          room = now.room;
          counted = ap (λ (j : ℕ). j + 1) now.counted ∙ sym (ap length (probes-put k e) ∙ length-append (probes_that k test) ((k + 2) ∷ []));
          wrote =
              ap₂ (λ (l : List ℕ) (j : ℕ). set l j (k + 2)) now.wrote at
              ∙ set_front d (0 ∷ probes_that k test) (k + 2) (omega (arith, probes-few k, now.room))
              ∙ ap (λ (l : List ℕ). front d (0 ∷ l)) (sym (probes-put k e));
        }

  -- the count goes in front
  pub written : (p : ℕ) (d rest : List ℕ) (n : ℕ) → Writing p (set d 0 0) rest n p → Written (probes_that p test) d (set rest 0 n) (n + 1)
  written p d rest n now =
      record {
        counted = ap (λ (j : ℕ). j + 1) now.counted;
        wrote =
            ap₂ (λ (l : List ℕ) (j : ℕ). set l 0 j) now.wrote now.counted
            ∙ front-over d 0 (length (probes_that p test)) (probes_that p test);
      }
