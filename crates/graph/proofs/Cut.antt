-- What a mark cuts: the part up to it and the parts behind it. By recursion over the bytes, and by whether the first of them is the mark.
use mathlib.Core.Path.{◌≡◌, refl, ap, ◌∙◌}
use mathlib.Core.Bool.{Bool, true, false, cond}
use mathlib.Core.List.{List, [], ◌∷◌}
use Prim.Native.Nat.{ℕ, suc, ◌+◌, ◌≤◌, ◌<◌}
use native.Mathlib.Omega.{arith}
use lib.Dec.{eqb}
use lib.ListN.{length, take, drop}
use Rattle.graph.specs.Part.{marks, part}

-- bytes without the mark are one part
pub part-whole : (mark : ℕ) (u : List ℕ) → marks mark u ≡ 0 → part mark 0 u ≡ u
unfolding marks part
part-whole mark [] none = refl
part-whole mark (byte ∷ rest) none = here (eqb byte mark) (part-whole mark rest) none
  where
    here : (b : Bool) → (marks mark rest ≡ 0 → part mark 0 rest ≡ rest) → cond b (suc (marks mark rest)) (marks mark rest) ≡ 0
        → cond b [] (byte ∷ part mark 0 rest) ≡ byte ∷ rest
    here true again some = absurd (omega arith)
    here false again none = ap (λ (v : List ℕ). byte ∷ v) (again none)

pub length_whole : (mark : ℕ) (u : List ℕ) → marks mark u ≡ 0 → length (part mark 0 u) ≡ length u
length_whole mark u none = ap length (part-whole mark u none)

-- a part that reaches the end has no mark behind it
pub marks-none : (mark : ℕ) (u : List ℕ) → length (part mark 0 u) ≡ length u → marks mark u ≡ 0
unfolding marks part
marks-none mark [] whole = refl
marks-none mark (byte ∷ rest) whole = here (eqb byte mark) (marks-none mark rest) whole
  where
    here : (b : Bool) → (length (part mark 0 rest) ≡ length rest → marks mark rest ≡ 0)
        → length (cond b [] (byte ∷ part mark 0 rest)) ≡ suc (length rest) → cond b (suc (marks mark rest)) (marks mark rest) ≡ 0
    here true again short = absurd (omega arith)
    here false again whole = again (omega arith)

pub part-within : (mark : ℕ) (u : List ℕ) → length (part mark 0 u) ≤ length u
unfolding part
part-within mark [] = omega arith
part-within mark (byte ∷ rest) = here (eqb byte mark) (part-within mark rest)
  where
    here : (b : Bool) → length (part mark 0 rest) ≤ length rest → length (cond b [] (byte ∷ part mark 0 rest)) ≤ suc (length rest)
    here true again = omega arith
    here false again = omega arith

part-front : (mark : ℕ) (u : List ℕ) → take (length (part mark 0 u)) u ≡ part mark 0 u
unfolding part
part-front mark [] = refl
part-front mark (byte ∷ rest) = here (eqb byte mark) (part-front mark rest)
  where
    here : (b : Bool) → take (length (part mark 0 rest)) rest ≡ part mark 0 rest
        → take (length (cond b [] (byte ∷ part mark 0 rest))) (byte ∷ rest) ≡ cond b [] (byte ∷ part mark 0 rest)
    here true again = refl
    here false again = ap (λ (v : List ℕ). byte ∷ v) again

-- the bytes behind the first mark
abbrev pub behind : (mark : ℕ) (u : List ℕ) → List ℕ
behind mark u = drop (suc (length (part mark 0 u))) u

marks-of-more : (mark : ℕ) (u : List ℕ) → length (part mark 0 u) < length u → marks mark u ≡ suc (marks mark (behind mark u))
unfolding marks part
marks-of-more mark [] more = absurd (omega arith)
marks-of-more mark (byte ∷ rest) more = here (eqb byte mark) (marks-of-more mark rest) more
  where
    here : (b : Bool) → (length (part mark 0 rest) < length rest → marks mark rest ≡ suc (marks mark (behind mark rest)))
        → length (cond b [] (byte ∷ part mark 0 rest)) < suc (length rest)
        → cond b (suc (marks mark rest)) (marks mark rest) ≡ suc (marks mark (drop (length (cond b [] (byte ∷ part mark 0 rest))) rest))
    here true again more = refl
    here false again more = again (omega arith)

-- also where no mark stands: then both are empty
pub parts_next : (mark j : ℕ) (u : List ℕ) → part mark (suc j) u ≡ part mark j (behind mark u)
unfolding part
parts_next mark j [] = refl
parts_next mark j (byte ∷ rest) = here (eqb byte mark) (parts_next mark j rest)
  where
    here : (b : Bool) → part mark (suc j) rest ≡ part mark j (behind mark rest)
        → part mark (cond b j (suc j)) rest ≡ part mark j (drop (length (cond b [] (byte ∷ part mark 0 rest))) rest)
    here true again = refl
    here false again = again

-- n bytes stand before the first mark
module _ (mark : ℕ) (u : List ℕ) (n : ℕ) (long : n ≡ length (part mark 0 u)) where
  pub take_part : take n u ≡ part mark 0 u
  take_part = ap (λ (k : ℕ). take k u) long ∙ part-front mark u

  next : suc (length (part mark 0 u)) ≡ n + 1
  next = omega arith

  pub marks-behind : n < length u → marks mark u ≡ suc (marks mark (drop (n + 1) u))
  marks-behind more = marks-of-more mark u (omega arith) ∙ ap (λ (k : ℕ). suc (marks mark (drop k u))) next

  pub parts-behind : n < length u → (j : ℕ) → part mark (suc j) u ≡ part mark j (drop (n + 1) u)
  parts-behind more j = parts_next mark j u ∙ ap (λ (k : ℕ). part mark j (drop k u)) next
