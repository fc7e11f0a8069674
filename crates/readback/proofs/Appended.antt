-- Bytes behind bytes, and the parts into which a mark cuts them: by recursion on the bytes in front.
use mathlib.Core.Path.{◌≡◌, refl, sym, ap, ◌∙◌}
use mathlib.Core.Bool.{Bool, true, false, cond}
use mathlib.Core.List.{[], ◌∷◌, ◌++◌}
use Prim.Native.Nat.{ℕ, zero, suc, ◌+◌, ◌<◌}
use native.Mathlib.Nat.{zero-add, suc-add, add-suc, not-suc-le-zero, le_of_suc-le-suc}
use lib.Dec.{eqb}
use Rattle.meaning.specs.Words.{Bytes}
use Rattle.graph.specs.Part.{marks, part}

pub marks-append : (m : ℕ) (xs ys : Bytes) → marks m (xs ++ ys) ≡ marks m xs + marks m ys
unfolding marks
marks-append m [] ys = sym (zero-add (marks m ys))
marks-append m (x ∷ xs) ys = go (eqb x m) (marks-append m xs ys)
  where
    go : (b : Bool) → marks m (xs ++ ys) ≡ marks m xs + marks m ys
        → cond b (suc (marks m (xs ++ ys))) (marks m (xs ++ ys)) ≡ cond b (suc (marks m xs)) (marks m xs) + marks m ys
    go true e = ap suc e ∙ sym (suc-add (marks m xs) (marks m ys))
    go false e = e

-- a part that ends in front stays
pub part_stays : (m k : ℕ) (xs ys : Bytes) → k < marks m xs → part m k (xs ++ ys) ≡ part m k xs
unfolding marks part
part_stays m k [] ys h = absurd (not-suc-le-zero h)
part_stays m zero (x ∷ xs) ys h = go (eqb x m) h (part_stays m zero xs ys)
  where
    go : (b : Bool) → zero < cond b (suc (marks m xs)) (marks m xs) → (zero < marks m xs → part m zero (xs ++ ys) ≡ part m zero xs)
        → ◌≡◌ {A = Bytes} (cond b [] (x ∷ part m zero (xs ++ ys))) (cond b [] (x ∷ part m zero xs))
    go true h same = refl
    go false h same = ap (λ (l : Bytes). x ∷ l) (same h)
part_stays m (suc k) (x ∷ xs) ys h = go (eqb x m) h (part_stays m k xs ys) (part_stays m (suc k) xs ys)
  where
    go : (b : Bool) → suc k < cond b (suc (marks m xs)) (marks m xs) → (k < marks m xs → part m k (xs ++ ys) ≡ part m k xs)
        → (suc k < marks m xs → part m (suc k) (xs ++ ys) ≡ part m (suc k) xs)
        → part m (cond b k (suc k)) (xs ++ ys) ≡ part m (cond b k (suc k)) xs
    go true h fewer same = fewer (le_of_suc-le-suc h)
    go false h fewer same = same h

-- one byte more in front of the parts
behind-mark : (m x k : ℕ) (l : Bytes) → eqb x m ≡ true → part m (suc k) (x ∷ l) ≡ part m k l
unfolding part
behind-mark m x k l e = ap (λ (b : Bool). part m (cond b k (suc k)) l) e

behind-other : (m x k : ℕ) (l : Bytes) → eqb x m ≡ false → part m (suc k) (x ∷ l) ≡ part m (suc k) l
unfolding part
behind-other m x k l e = ap (λ (b : Bool). part m (cond b k (suc k)) l) e

first-other : (m x : ℕ) (l : Bytes) → eqb x m ≡ false → part m 0 (x ∷ l) ≡ x ∷ part m 0 l
unfolding part
first-other m x l e = ap (λ (b : Bool). cond b [] (x ∷ part m 0 l)) e

-- the last part in front goes on behind
pub part-goes-on : (m : ℕ) (xs ys : Bytes) → part m (marks m xs) (xs ++ ys) ≡ part m (marks m xs) xs ++ part m 0 ys
unfolding marks part
part-goes-on m [] ys = refl
part-goes-on m (x ∷ xs) ys = go (eqb x m) refl (part-goes-on m xs ys)
  where
    other : (n : ℕ) → eqb x m ≡ false → part m n (xs ++ ys) ≡ part m n xs ++ part m 0 ys
        → part m n (x ∷ (xs ++ ys)) ≡ part m n (x ∷ xs) ++ part m 0 ys
    other zero e ih = first-other m x (xs ++ ys) e ∙ ap (λ (l : Bytes). x ∷ l) ih ∙ ap (λ (l : Bytes). l ++ part m 0 ys) (sym (first-other m x xs e))
    other (suc n) e ih = behind-other m x n (xs ++ ys) e ∙ ih ∙ ap (λ (l : Bytes). l ++ part m 0 ys) (sym (behind-other m x n xs e))

    go : (b : Bool) → eqb x m ≡ b → part m (marks m xs) (xs ++ ys) ≡ part m (marks m xs) xs ++ part m 0 ys
        → part m (cond b (suc (marks m xs)) (marks m xs)) (x ∷ (xs ++ ys)) ≡ part m (cond b (suc (marks m xs)) (marks m xs)) (x ∷ xs) ++ part m 0 ys
    go true e ih = behind-mark m x (marks m xs) (xs ++ ys) e ∙ ih ∙ ap (λ (l : Bytes). l ++ part m 0 ys) (sym (behind-mark m x (marks m xs) xs e))
    go false e ih = other (marks m xs) e ih

-- the parts behind
pub part-behind : (m j : ℕ) (xs ys : Bytes) → part m (marks m xs + suc j) (xs ++ ys) ≡ part m (suc j) ys
unfolding marks
part-behind m j [] ys = ap (λ (k : ℕ). part m k ys) (zero-add (suc j))
part-behind m j (x ∷ xs) ys = go (eqb x m) refl (part-behind m j xs ys)
  where
    go : (b : Bool) → eqb x m ≡ b → part m (marks m xs + suc j) (xs ++ ys) ≡ part m (suc j) ys
        → part m (cond b (suc (marks m xs)) (marks m xs) + suc j) (x ∷ (xs ++ ys)) ≡ part m (suc j) ys
    go true e ih = ap (λ (k : ℕ). part m k (x ∷ (xs ++ ys))) (suc-add (marks m xs) (suc j)) ∙ behind-mark m x (marks m xs + suc j) (xs ++ ys) e ∙ ih
    go false e ih =
        ap (λ (k : ℕ). part m k (x ∷ (xs ++ ys))) (add-suc (marks m xs) j)
        ∙ behind-other m x (marks m xs + j) (xs ++ ys) e
        ∙ ap (λ (k : ℕ). part m k (xs ++ ys)) (sym (add-suc (marks m xs) j))
        ∙ ih
