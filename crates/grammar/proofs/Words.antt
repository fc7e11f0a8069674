-- What a mark cuts, in the words of the library, each by recursion over the bytes and by whether the first of them is the mark.
use Rattle.std.proofs.Common.{◌≡◌, ◌≢◌, refl, ap, ℕ, zero, suc, ◌+◌, Bool, true, false, cond, ◌&&◌, List, [], ◌∷◌, length, get_or, count_by, eqb, eq-eqb, ne_eqb, arith}
use Rattle.std.specs.List.{slice_split, onto_first}
use Rattle.std.specs.Cmp.Lexicographic.{pointwise}
use Rattle.std.proofs.lemmas.List.Recursion.{is_count_by}
use Rattle.graph.specs.Part.{marks, part}
use Rattle.graph.specs.Lines.{same}

pub marks-count : (mark : ℕ) (u : List ℕ) → marks mark u ≡ count_by (λ byte. eqb byte mark) u
unfolding marks
marks-count mark = is_count_by (marks mark) (λ byte. eqb byte mark) refl (λ byte rest. here (eqb byte mark) (marks mark rest))
  where
    here : (b : Bool) (n : ℕ) → cond b (suc n) n ≡ cond b (1 + n) n
    here true n = omega arith
    here false n = refl

pub nothing : (mark : ℕ) → length (part mark 0 []) ≡ 0
unfolding part
nothing mark = refl

module _ (mark byte : ℕ) (rest : List ℕ) where
  pub mark-ends : byte ≡ mark → length (part mark 0 (byte ∷ rest)) ≡ 0
  unfolding part
  mark-ends e = rw (eq-eqb byte mark e)

  pub other-passes : byte ≢ mark → length (part mark 0 (byte ∷ rest)) ≡ length (part mark 0 rest) + 1
  unfolding part
  other-passes other = rw (ne_eqb byte mark other) (omega arith)

pub piece : (mark k : ℕ) (u : List ℕ) → get_or (slice_split (λ byte. eqb byte mark) u) k [] ≡ part mark k u
unfolding part
piece mark zero [] = refl
piece mark (suc k) [] = refl
piece mark zero (byte ∷ rest) = here (eqb byte mark) (slice_split (λ b. eqb b mark) rest) (piece mark zero rest)
  where
    here : (b : Bool) (pieces : List (List ℕ)) → get_or pieces 0 [] ≡ part mark 0 rest
        → get_or (cond b ([] ∷ pieces) (onto_first byte pieces)) 0 [] ≡ cond b [] (byte ∷ part mark 0 rest)
    here true pieces e = refl
    here false [] e = ap (λ (v : List ℕ). byte ∷ v) e
    here false (first ∷ pieces) e = ap (λ (v : List ℕ). byte ∷ v) e
piece mark (suc k) (byte ∷ rest) = here (eqb byte mark) (slice_split (λ b. eqb b mark) rest) (piece mark k rest) (piece mark (suc k) rest)
  where
    here : (b : Bool) (pieces : List (List ℕ)) → get_or pieces k [] ≡ part mark k rest → get_or pieces (suc k) [] ≡ part mark (suc k) rest
        → get_or (cond b ([] ∷ pieces) (onto_first byte pieces)) (suc k) [] ≡ part mark (cond b k (suc k)) rest
    here true pieces e f = e
    here false [] e f = f
    here false (first ∷ pieces) e f = f

pub same-pointwise : (xs ys : List ℕ) → pointwise eqb xs ys ≡ same xs ys
unfolding same
same-pointwise [] [] = refl
same-pointwise [] (y ∷ ys) = refl
same-pointwise (x ∷ xs) [] = refl
same-pointwise (x ∷ xs) (y ∷ ys) = ap (λ (b : Bool). eqb x y && b) (same-pointwise xs ys)
