-- Laws of the words of `specs/Words.antt`: each goes by recursion on how many turns there are.
use mathlib.Core.Path.{◌≡◌, refl, sym, ap, ap₂, ◌∙◌, subst}
use mathlib.Core.Bool.{Bool, true, false, cond, ◌||◌, or-true}
use mathlib.Core.List.{List, [], ◌∷◌, ◌++◌}
use mathlib.Core.Logic.{◌⊎◌, inl, inr, ◌≢◌, ⊎_elim}
use Prim.Native.Nat.{ℕ, zero, suc, ◌+◌, ◌*◌, ◌≤◌, ◌<◌, max}
use native.Mathlib.Nat.{not-suc-le-zero, zero-mul, suc-mul}
use native.Mathlib.Numerals.{add-one}
use native.Mathlib.Decide.{dec_lt, ℕ_discrete}
use native.Mathlib.Omega.{arith}
use lib.ListN.{length, get_or, take, set, length-append, length-set, get_or-append, get_or-eq_default}
use lib.Seq.{get_or-append_seam, get_or-set_same, get_or-set_other, take-suc-set, take_all, ext_get_or}
use Rattle.meaning.specs.Words.{for_each, some, sum, most, tab, places}

-- a number below n + 1 is below n or is n
pub below-or-last : (k n : ℕ) → k < suc n → (k < n) ⊎ (k ≡ n)
below-or-last k n h = go (dec_lt k n)
  where
    go : Dec (k < n) → (k < n) ⊎ (k ≡ n)
    go (yes l) = inl l
    go (no l) = inr (omega arith)

-- two numbers are the same or not
pub same-or-other : (a b : ℕ) → (a ≡ b) ⊎ (a ≢ b)
same-or-other a b = go (ℕ_discrete a b)
  where
    go : Dec (a ≡ b) → (a ≡ b) ⊎ (a ≢ b)
    go (yes e) = inl e
    go (no e) = inr e

-- turn i + 1 comes after turn i
pub for_each-one : {A : Type 0} (i : ℕ) (step : ℕ → A → A) (start : A) → for_each (i + 1) step start ≡ step i (for_each i step start)
unfolding for_each
for_each-one i step start = rw (add-one i)

-- what the later turns leave alone stays
pub for_each-stays : {A : Type 0} (i n : ℕ) (step : ℕ → A → A) (start a : A) → i ≤ n → for_each i step start ≡ a
    → ((k : ℕ) → i ≤ k → k < n → step k a ≡ a) → for_each n step start ≡ a
unfolding for_each
for_each-stays i zero step start a h e stay =
    let none : i ≡ 0 = omega arith in
    subst (λ (j : ℕ). for_each j step start ≡ a) none e
for_each-stays i (suc n) step start a h e stay =
    ⊎_elim
    (λ (l : i < suc n).
    let below : i ≤ n = omega arith in
    ap (step n) (for_each-stays i n step start a below e (λ k hi hk. stay k hi (omega arith))) ∙ stay n below (omega arith))
    (λ (l : i ≡ suc n). subst (λ (j : ℕ). for_each j step start ≡ a) l e)
    (below-or-last i (suc n) (omega arith))

-- steps that agree come to the same
pub for_each-same : {A : Type 0} (n : ℕ) (f g : ℕ → A → A) (start : A) → ((k : ℕ) → k < n → (a : A) → f k a ≡ g k a) → for_each n f start ≡ for_each n g start
unfolding for_each
for_each-same zero f g start e = refl
for_each-same (suc n) f g start e = e n (omega arith) (for_each n f start) ∙ ap (g n) (for_each-same n f g start (λ k h. e k (omega arith)))

-- what each turn keeps true stays true
pub for_each-keeps : {A : Type 0} (P : A → Type 0) (n : ℕ) (step : ℕ → A → A) (start : A) → P start
    → ((k : ℕ) → k < n → (a : A) → P a → P (step k a)) → P (for_each n step start)
unfolding for_each
for_each-keeps P zero step start p keep = p
for_each-keeps P (suc n) step start p keep =
    keep n (omega arith) (for_each n step start) (for_each-keeps P n step start p (λ k h. keep k (omega arith)))

-- one more number to look at
pub some_one : (i : ℕ) (test : ℕ → Bool) → some (i + 1) test ≡ (some i test || test i)
unfolding some
some_one i test = rw (add-one i)

pub some-found : (n : ℕ) (test : ℕ → Bool) (k : ℕ) → k < n → test k ≡ true → some n test ≡ true
unfolding some
some-found zero test k h e = absurd (not-suc-le-zero h)
some-found (suc n) test k h e =
    ⊎_elim (λ (l : k < n). ap (λ (b : Bool). b || test n) (some-found n test k l e))
    (λ (l : k ≡ n). ap (λ (b : Bool). some n test || b) (subst (λ (j : ℕ). test j ≡ true) l e) ∙ or-true (some n test))
    (below-or-last k n h)

or_left : (a b : Bool) → (a || b) ≡ false → a ≡ false
or_left true b e = e
or_left false b e = refl

or_right : (a b : Bool) → (a || b) ≡ false → b ≡ false
or_right true b e = absurd (subst (λ (t : Bool). cond t Unit ⊥) e tt)
or_right false b e = e

pub some-none : (n : ℕ) (test : ℕ → Bool) → some n test ≡ false → (k : ℕ) → k < n → test k ≡ false
unfolding some
some-none zero test e k h = absurd (not-suc-le-zero h)
some-none (suc n) test e k h =
    ⊎_elim (λ (l : k < n). some-none n test (or_left (some n test) (test n) e) k l)
    (λ (l : k ≡ n). subst (λ (j : ℕ). test j ≡ false) (sym l) (or_right (some n test) (test n) e))
    (below-or-last k n h)

pub none-some : (n : ℕ) (test : ℕ → Bool) → ((k : ℕ) → k < n → test k ≡ false) → some n test ≡ false
unfolding some
none-some zero test none = refl
none-some (suc n) test none = ap₂ ◌||◌ (none-some n test (λ k h. none k (omega arith))) (none n (omega arith))

pub some_same : (n : ℕ) (f g : ℕ → Bool) → ((k : ℕ) → k < n → f k ≡ g k) → some n f ≡ some n g
unfolding some
some_same zero f g e = refl
some_same (suc n) f g e = ap₂ ◌||◌ (some_same n f g (λ k h. e k (omega arith))) (e n (omega arith))

-- where some number passes, one is found
pub some-where : (n : ℕ) (test : ℕ → Bool) → some n test ≡ true → (k : ℕ) × (k < n) × (test k ≡ true)
unfolding some
some-where zero test e = absurd (subst (λ (t : Bool). cond t ⊥ Unit) e tt)
some-where (suc n) test e = go (some n test) refl (some-where n test)
  where
    go : (b : Bool) → some n test ≡ b → (some n test ≡ true → (k : ℕ) × (k < n) × (test k ≡ true))
        → (k : ℕ) × (k < suc n) × (test k ≡ true)
    go true q before = let found = before q in (found.0, omega (arith, found.1), found.2)
    go false q before = (n, omega arith, subst (λ (b : Bool). (b || test n) ≡ true) q e)

pub sum_one : (i : ℕ) (f : ℕ → ℕ) → sum (i + 1) f ≡ sum i f + f i
unfolding sum
sum_one i f = rw (add-one i)

pub sum_same : (n : ℕ) (f g : ℕ → ℕ) → ((k : ℕ) → k < n → f k ≡ g k) → sum n f ≡ sum n g
unfolding sum
sum_same zero f g e = refl
sum_same (suc n) f g e = ap₂ ◌+◌ (sum_same n f g (λ k h. e k (omega arith))) (e n (omega arith))

pub sum-least : (n : ℕ) (f g : ℕ → ℕ) → ((k : ℕ) → k < n → f k ≤ g k) → sum n f ≤ sum n g
unfolding sum
sum-least zero f g e = omega arith
sum-least (suc n) f g e = omega (arith, sum-least n f g (λ k h. e k (omega arith)), e n (omega arith))

-- a part of a sum is no more than the sum
pub in_sum : (n : ℕ) (f : ℕ → ℕ) (k : ℕ) → k < n → f k ≤ sum n f
unfolding sum
in_sum zero f k h = absurd (not-suc-le-zero h)
in_sum (suc n) f k h =
    ⊎_elim (λ (l : k < n). omega (arith, in_sum n f k l)) (λ (l : k ≡ n). omega (arith, ap f l)) (below-or-last k n h)

pub sum-constant : (n c : ℕ) → sum n (λ _. c) ≡ n * c
unfolding sum
sum-constant zero c = sym (zero-mul c)
sum-constant (suc n) c = rw (sum-constant n c) (sym (suc-mul n c))

pub most-one : (i : ℕ) (f : ℕ → ℕ) → most (i + 1) f ≡ max (most i f) (f i)
unfolding most
most-one i f = rw (add-one i)

pub most-same : (n : ℕ) (f g : ℕ → ℕ) → ((k : ℕ) → k < n → f k ≡ g k) → most n f ≡ most n g
unfolding most
most-same zero f g e = refl
most-same (suc n) f g e = ap₂ max (most-same n f g (λ k h. e k (omega arith))) (e n (omega arith))

pub length-tab : {A : Type 0} (n : ℕ) (f : ℕ → A) → length (tab n f) ≡ n
unfolding tab
length-tab zero f = refl
length-tab (suc n) f = length-append (tab n f) (f n ∷ []) ∙ (rw (length-tab n f) (add-one n))

pub get_or-tab : {A : Type 0} (n : ℕ) (f : ℕ → A) (k : ℕ) (d : A) → k < n → get_or (tab n f) k d ≡ f k
unfolding tab
get_or-tab zero f k d h = absurd (not-suc-le-zero h)
get_or-tab (suc n) f k d h =
    ⊎_elim
    (λ (l : k < n).
    get_or-append (tab n f) (f n ∷ []) d k (subst (λ (m : ℕ). k < m) (sym (length-tab n f)) l) ∙ get_or-tab n f k d l)
    (λ (l : k ≡ n).
    ap (λ (j : ℕ). get_or (tab n f ++ (f n ∷ [])) j d) (l ∙ sym (length-tab n f)) ∙ get_or-append_seam (tab n f) (f n) [] d ∙ ap f (sym l))
    (below-or-last k n h)

-- a list by node, read at any number, is the function that it was made of, if that is `d` outside
pub get_or-places : {A : Type 0} (f : ℕ → A) (d : A) → ((k : ℕ) → places ≤ k → f k ≡ d) → (k : ℕ) → get_or (tab places f) k d ≡ f k
get_or-places f d outside k = go (dec_lt k places)
  where
    go : Dec (k < places) → get_or (tab places f) k d ≡ f k
    go (yes l) = get_or-tab places f k d l
    go (no l) =
        let past : places ≤ k = omega arith in
        get_or-eq_default (tab places f) d (subst (λ (m : ℕ). m ≤ k) (sym (length-tab places f)) past) ∙ sym (outside k past)

pub tab-same : {A : Type 0} (n : ℕ) (f g : ℕ → A) → ((k : ℕ) → k < n → f k ≡ g k) → tab n f ≡ tab n g
unfolding tab
tab-same zero f g e = refl
tab-same (suc n) f g e = ap₂ (λ (l : List _) (a : _). l ++ (a ∷ [])) (tab-same n f g (λ k h. e k (omega arith))) (e n (omega arith))

-- an array filled from the front: the next place
pub tab-next : {A : Type 0} (l : List A) (i : ℕ) (f : ℕ → A) (a : A) → i < length l → take i l ≡ tab i f → a ≡ f i → take (i + 1) (set l i a) ≡ tab (i + 1) f
unfolding tab
tab-next l i f a h e q = rw (add-one i) (take-suc-set l i a h ∙ ap₂ (λ (l : List _) (a : _). l ++ (a ∷ [])) e q)

-- and the whole
pub tab-full : {A : Type 0} (l : List A) (n : ℕ) (f : ℕ → A) → length l ≡ n → take n l ≡ tab n f → l ≡ tab n f
tab-full l n f h e = sym (take_all n l (omega arith)) ∙ e

-- a list is what it reads as
pub tab-of : {A : Type 0} (n : ℕ) (l : List A) (d : A) → length l ≡ n → tab n (λ k. get_or l k d) ≡ l
tab-of n l d h =
    ext_get_or d (tab n (λ k. get_or l k d)) l (length-tab n (λ k. get_or l k d) ∙ sym h)
    (λ i hi. get_or-tab n (λ k. get_or l k d) i d (subst (λ (m : ℕ). i < m) (length-tab n (λ k. get_or l k d)) hi))

-- one place of such a list changed
pub set-tab : {A : Type 0} (n : ℕ) (f g : ℕ → A) (i : ℕ) (a d : A) → i < n → g i ≡ a → ((j : ℕ) → (j ≡ i → ⊥) → g j ≡ f j) → set (tab n f) i a ≡ tab n g
set-tab n f g i a d h here other =
    ext_get_or d (set (tab n f) i a) (tab n g) (length-set (tab n f) i a ∙ length-tab n f ∙ sym (length-tab n g))
    (λ j hj.
    let within : j < n = subst (λ (m : ℕ). j < m) (length-set (tab n f) i a ∙ length-tab n f) hj in
    ⊎_elim
    (λ (e : j ≡ i).
    ap (λ (k : ℕ). get_or (set (tab n f) i a) k d) e ∙ get_or-set_same (tab n f) i a d (subst (λ (m : ℕ). i < m) (sym (length-tab n f)) h)
    ∙ sym here
    ∙ ap g (sym e)
    ∙ sym (get_or-tab n g j d within))
    (λ (e : j ≡ i → ⊥).
    get_or-set_other (tab n f) i j a d e ∙ get_or-tab n f j d within ∙ sym (other j e) ∙ sym (get_or-tab n g j d within))
    (same-or-other j i))
