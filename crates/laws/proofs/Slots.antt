-- A slot's senders: in rising number, and each of them may send. By recursion over the probes, and by what each turn of joining keeps.
use mathlib.Core.Path.{◌≡◌, refl, sym, ◌∙◌, subst}
use mathlib.Core.Bool.{Bool, true, false, cond, not, ◌&&◌}
use mathlib.Core.List.{List, [], ◌∷◌, ◌++◌}
use mathlib.Core.Logic.{◌⊎◌, ◌≢◌, ⊎_elim}
use Prim.Native.Nat.{ℕ, zero, suc, ◌+◌, ◌≤◌, ◌<◌}
use native.Mathlib.Omega.{arith}
use lib.ListN.{get_or, set}
use lib.Seq.{get_or-set_other}
use Rattle.meaning.specs.Words.{probes_that}
use Rattle.meaning.specs.Rounds.{joins, joined, clashes, slot_of}
use Rattle.laws.proofs.Turns.{for_each-keeps, same-or-other}
use Rattle.laws.proofs.Moving.{Rising, Each}

pub true-or-false : (b : Bool) → (b ≡ true) ⊎ (b ≡ false)
true-or-false true = mathlib.Core.Logic.inl refl
true-or-false false = mathlib.Core.Logic.inr refl

pub never : {P : Type 0} → false ≡ true → P
never e = absurd (subst (λ (b : Bool). cond b ⊥ Unit) e tt)

pub and_left : (a b : Bool) → (a && b) ≡ true → a ≡ true
and_left true b e = refl
and_left false b e = e

pub and_right : (a b : Bool) → (a && b) ≡ true → b ≡ true
and_right true b e = e
and_right false b e = never e

pub each_append : (P : ℕ → Type 0) (xs ys : List ℕ) → Each P xs → Each P ys → Each P (xs ++ ys)
unfolding Each
each_append P [] ys hx hy = hy
each_append P (x ∷ xs) ys hx hy = (hx.0, each_append P xs ys hx.1 hy)

pub each-so : (P Q : ℕ → Type 0) (xs : List ℕ) → ((v : ℕ) → P v → Q v) → Each P xs → Each Q xs
unfolding Each
each-so P Q [] so h = tt
each-so P Q (x ∷ xs) so h = (so x h.0, each-so P Q xs so h.1)

rising_snoc : (lo v : ℕ) (xs : List ℕ) → lo < v → Rising lo xs → Each (λ u. u < v) xs → Rising lo (xs ++ (v ∷ []))
unfolding Rising Each
rising_snoc lo v [] h r e = (h, tt)
rising_snoc lo v (x ∷ xs) h r e = (r.0, rising_snoc x v xs e.0 r.1 e.1)

-- the probes that pass a test: each passes it, and they rise
pub each-probe : (P : ℕ → Type 0) (p : ℕ) (test : ℕ → Bool) → ((k : ℕ) → k < p → test (k + 2) ≡ true → P (k + 2)) → Each P (probes_that p test)
unfolding Each probes_that
each-probe P zero test h = tt
each-probe P (suc p) test h =
    each_append P (probes_that p test) (cond (test (p + 2)) ((p + 2) ∷ []) []) (each-probe P p test (λ k hk. h k (omega arith)))
    (last (test (p + 2)) refl)
  where
    last : (b : Bool) → test (p + 2) ≡ b → Each P (cond b ((p + 2) ∷ []) [])
    last true e = (h p (omega arith) e, tt)
    last false e = tt

pub rising-probes : (p : ℕ) (test : ℕ → Bool) → Rising 1 (probes_that p test)
unfolding Rising probes_that
rising-probes zero test = tt
rising-probes (suc p) test = last (test (p + 2)) (rising-probes p test) (each-probe (λ u. u < p + 2) p test (λ k hk e. omega arith))
  where
    last : (b : Bool) → Rising 1 (probes_that p test) → Each (λ u. u < p + 2) (probes_that p test)
        → Rising 1 (probes_that p test ++ cond b ((p + 2) ∷ []) [])
    last true r e = rising_snoc 1 (p + 2) (probes_that p test) (omega arith) r e
    last false r e = subst (λ (l : List ℕ). Rising 1 l) (sym (mathlib.Core.List.append-nil (probes_that p test))) r

-- only those that may are chosen
abbrev pub Only : (ℕ → Bool) → List Bool → Type 0
Only may chosen = (v : ℕ) → get_or chosen v false ≡ true → may v ≡ true

only-joins : (relation : ℕ → ℕ → Bool) (may : ℕ → Bool) (u : ℕ) (chosen : List Bool) → Only may chosen → Only may (joins relation may u chosen)
only-joins relation may u chosen only = go (may u && not (clashes relation chosen u)) refl
  where
    go : (b : Bool) → (may u && not (clashes relation chosen u)) ≡ b → Only may (cond b (set chosen u true) chosen)
    go false e v h = only v h
    go true e v h =
        ⊎_elim (λ (q : v ≡ u). subst (λ (j : ℕ). may j ≡ true) (sym q) (and_left (may u) (not (clashes relation chosen u)) e))
        (λ (q : v ≢ u). only v (sym (get_or-set_other chosen u v true false q) ∙ h))
        (same-or-other v u)

pub only-joined : (p : ℕ) (relation : ℕ → ℕ → Bool) (may : ℕ → Bool) (chosen : List Bool) → Only may chosen → Only may (joined p relation may chosen)
unfolding joined
only-joined p relation may chosen only =
    for_each-keeps (Only may) p (λ k. joins relation may (k + 2)) chosen only (λ k hk a h. only-joins relation may (k + 2) a h)

-- the senders of a slot may send
pub each-slot : (p : ℕ) (relation : ℕ → ℕ → Bool) (may : ℕ → Bool) (owners : List Bool) → Only may owners
    → Each (λ v. (may v ≡ true) × (2 ≤ v) × (v < p + 2)) (slot_of p relation may owners)
unfolding slot_of Each
each-slot p relation may owners only =
    each-probe (λ v. (may v ≡ true) × (2 ≤ v) × (v < p + 2)) p (λ v. get_or (joined p relation may owners) v false)
    (λ k hk e. (only-joined p relation may owners only (k + 2) e, omega arith, omega arith))

pub rising-slot : (p : ℕ) (relation : ℕ → ℕ → Bool) (may : ℕ → Bool) (owners : List Bool) → Rising 1 (slot_of p relation may owners)
unfolding slot_of Rising
rising-slot p relation may owners = rising-probes p (λ v. get_or (joined p relation may owners) v false)
