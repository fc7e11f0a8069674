-- Laws of marks in a table: a mark adds one pair to the relation that the table is made of.
use mathlib.Core.Path.{◌≡◌, refl, sym, ap, ◌∙◌, subst}
use mathlib.Core.Bool.{Bool, true, false, cond, not, ◌&&◌, ◌||◌, and_comm, or_comm, and-false, or-false, or_assoc, and-or_distrib_left}
use mathlib.Core.List.{List, [], ◌∷◌, ◌++◌}
use mathlib.Core.Logic.{◌⊎◌, inl, inr}
use Prim.Native.Nat.{ℕ, zero, suc, ◌+◌, ◌≤◌, ◌<◌}
use native.Mathlib.Numerals.{add-one}
use native.Mathlib.Omega.{arith}
use borrow.Author.Tests.{lt-ltb, le-ltb, ltb-true, ltb-false, eqb-true, eqb-false, eq-eqb, ne_eqb}
use lib.Dec.{eqb, ltb}
use lib.ListN.{length, get_or, take, set, replicate, length-set, replicate-append-replicate}
use lib.Seq.{get_or-set_same, get_or-set_other, ext_get_or}
use Rattle.meaning.specs.Words.{for_each, some, some_probe, tab, places}
use Rattle.meaning.specs.Sheet.{first_of, second_of, interfere}
use Rattle.meaning.specs.Conflict.{table_of, entry}
use Rattle.meaning.specs.Colour.{levels_conflict}
use Rattle.laws.proofs.Turns.{for_each-one, for_each-stays, some_one, length-tab, get_or-tab, tab-same, tab-full}
use Rattle.conflict.specs.Marks.{rows_of, marked, levels_marked}

-- tables of relations that agree are equal
pub rows_same : (n : ℕ) (f g : ℕ → ℕ → Bool) → ((x : ℕ) → x < n → (y : ℕ) → y < places → f x y ≡ g x y) → rows_of n f ≡ rows_of n g
rows_same n f g e = tab-same n (λ x. tab places (f x)) (λ x. tab places (g x)) (λ x hx. tab-same places (f x) (g x) (e x hx))

pub table_same : (f g : ℕ → ℕ → Bool) → ((x : ℕ) → x < places → (y : ℕ) → y < places → f x y ≡ g x y) → table_of f ≡ table_of g
table_same f g e = rows_same places f g e

-- a list of equal elements
pub all_same : {A : Type 0} (n : ℕ) (a : A) → replicate n a ≡ tab n (λ _. a)
unfolding tab
all_same zero a = refl
all_same {A} (suc n) a =
    ap (λ (k : ℕ). replicate k a) (sym (add-one n)) ∙ sym (replicate-append-replicate n 1 a) ∙ ap (λ (l : List A). l ++ (a ∷ [])) (all_same n a)

-- the table of a relation that holds of none
pub no-marks : (n : ℕ) (f : ℕ → ℕ → Bool) → ((x y : ℕ) → f x y ≡ false) → replicate n (replicate places false) ≡ rows_of n f
no-marks n f none =
    all_same n (replicate places false) ∙ ap (λ (row : List Bool). tab n (λ _. row)) (all_same places false)
    ∙ rows_same n (λ x y. false) f (λ x hx y hy. sym (none x y))

-- a table that is made of a relation reads as the relation, where both numbers have a place
pub entry_of : (n : ℕ) (t : List (List Bool)) (f : ℕ → ℕ → Bool) (x y : ℕ) → t ≡ rows_of n f → x < n → y < places → entry t x y ≡ f x y
entry_of n t f x y e hx hy =
    ap (λ (u : List (List Bool)). entry u x y) e
    ∙ ap (λ (row : List Bool). get_or row y false) (get_or-tab n (λ a. tab places (f a)) x [] hx)
    ∙ get_or-tab places (f x) y false hy

-- a list that is filled from the front to its end
pub filled : {A : Type 0} (l : List A) (i n : ℕ) (f : ℕ → A) → length l ≡ n → take i l ≡ tab i f → n ≤ i → i ≤ n → l ≡ tab n f
filled l i n f long e above below =
    let end : i ≡ n = omega arith in
    tab-full l n f long (subst (λ (j : ℕ). take j l ≡ tab j f) end e)

-- one place of a list is changed
set-tab : {A : Type 0} (n : ℕ) (f : ℕ → A) (i : ℕ) (v : A) → set (tab n f) i v ≡ tab n (λ k. cond (eqb i k) v (f k))
set-tab {A} n f i v =
    ext_get_or v (set (tab n f) i v) (tab n g) (long ∙ sym (length-tab n g))
    (λ k h. at k (subst (λ (m : ℕ). k < m) long h) (eqb i k) refl)
  where
    g : ℕ → A
    g k = cond (eqb i k) v (f k)

    long : length (set (tab n f) i v) ≡ n
    long = length-set (tab n f) i v ∙ length-tab n f

    at : (k : ℕ) → k < n → (s : Bool) → eqb i k ≡ s → get_or (set (tab n f) i v) k v ≡ get_or (tab n g) k v
    at k h true e =
        let here : k < length (tab n f) = subst (λ (m : ℕ). k < m) (sym (length-tab n f)) h in
        ap (λ (j : ℕ). get_or (set (tab n f) j v) k v) (eqb-true i k e)
        ∙ get_or-set_same (tab n f) k v v here
        ∙ ap (λ (s : Bool). cond s v (f k)) (sym e)
        ∙ sym (get_or-tab n g k v h)
    at k h false e =
        get_or-set_other (tab n f) i k v v (λ q. eqb-false i k e (sym q))
        ∙ get_or-tab n f k v h
        ∙ ap (λ (s : Bool). cond s v (f k)) (sym e)
        ∙ sym (get_or-tab n g k v h)

-- a mark of two numbers that have a place, and of two that have not both one
pub marked-in : (n : ℕ) (t : List (List Bool)) (a b : ℕ) → a < n → b < places → marked n t a b ≡ set t a (set (get_or t a []) b true)
unfolding marked
marked-in n t a b ha hb = simp (lt-ltb a n ha, lt-ltb b places hb)

pub marked-out : (n : ℕ) (t : List (List Bool)) (a b : ℕ) → (n ≤ a) ⊎ (places ≤ b) → marked n t a b ≡ t
unfolding marked
marked-out n t a b (inl h) = simp (le-ltb a n h)
marked-out n t a b (inr h) = simp (le-ltb b places h, and-false)

pick-or : (s t : Bool) → cond s true t ≡ (t || s)
pick-or true true = refl
pick-or true false = refl
pick-or false true = refl
pick-or false false = refl

-- a number that has no place equals none that has one
apart : (n a x : ℕ) → ltb a n ≡ false → x < n → eqb a x ≡ false
apart n a x e h = let past : n ≤ a = ltb-false a n e in ne_eqb a x (λ q. omega arith)

-- a mark adds its pair to the relation
pub marked-table : (n : ℕ) (f : ℕ → ℕ → Bool) (a b : ℕ) → marked n (rows_of n f) a b ≡ rows_of n (λ x y. f x y || (eqb a x && eqb b y))
unfolding marked
marked-table n f a b = go (ltb a n) refl (ltb b places) refl
  where
    g : ℕ → ℕ → Bool
    g x y = f x y || (eqb a x && eqb b y)

    row : (x : ℕ) (s : Bool) → eqb a x ≡ s
        → cond s (tab places (λ y. cond (eqb b y) true (f a y))) (tab places (f x)) ≡ tab places (λ y. f x y || (s && eqb b y))
    row x true e =
        tab-same places (λ y. cond (eqb b y) true (f a y)) (λ y. f x y || eqb b y)
        (λ y hy. pick-or (eqb b y) (f a y) ∙ ap (λ (z : ℕ). f z y || eqb b y) (eqb-true a x e))
    row x false e = tab-same places (f x) (λ y. f x y || false) (λ y hy. sym (or-false (f x y)))

    go : (s : Bool) → ltb a n ≡ s → (t : Bool) → ltb b places ≡ t
        → cond (s && t) (set (rows_of n f) a (set (get_or (rows_of n f) a []) b true)) (rows_of n f) ≡ rows_of n g
    go true ha true hb =
        ap (λ (l : List Bool). set (rows_of n f) a (set l b true)) (get_or-tab n (λ x. tab places (f x)) a [] (ltb-true a n ha))
        ∙ ap (set (rows_of n f) a) (set-tab places (f a) b true)
        ∙ set-tab n (λ x. tab places (f x)) a (tab places (λ y. cond (eqb b y) true (f a y)))
        ∙ tab-same n (λ x. cond (eqb a x) (tab places (λ y. cond (eqb b y) true (f a y))) (tab places (f x))) (λ x. tab places (g x)) (λ x hx. row x (eqb a x) refl)
    go true ha false hb =
        rows_same n f g (λ x hx y hy. sym (ap (λ (s : Bool). f x y || (eqb a x && s)) (apart places b y hb hy)
        ∙ ap (λ (s : Bool). f x y || s) (and-false (eqb a x)) ∙ or-false (f x y)))
    go false ha t hb =
        rows_same n f g (λ x hx y hy. sym (ap (λ (s : Bool). f x y || (s && eqb b y)) (apart n a x ha hx) ∙ or-false (f x y)))

-- no pair among no records
pub no_record : (records : List ℕ) (x y : ℕ) → interfere records 0 y x ≡ false
unfolding interfere some
no_record records x y = refl

-- one more record is a mark each way round
pub record-marked : (records : List ℕ) (k : ℕ)
    → marked 256 (marked 256 (rows_of 256 (λ x y. interfere records k y x)) (first_of records k) (second_of records k)) (second_of records k) (first_of records k)
    ≡ rows_of 256 (λ x y. interfere records (k + 1) y x)
unfolding interfere
record-marked records k =
    ap (λ (t : List (List Bool)). marked 256 t b a) (marked-table 256 (λ x y. interfere records k y x) a b)
    ∙ marked-table 256 (λ x y. interfere records k y x || (eqb a x && eqb b y)) b a
    ∙ rows_same 256 _ (λ x y. interfere records (k + 1) y x) (λ x hx y hy. one x y)
  where
    a : ℕ
    a = first_of records k

    b : ℕ
    b = second_of records k

    one : (x y : ℕ) → (interfere records k y x || (eqb a x && eqb b y) || (eqb b x && eqb a y)) ≡ interfere records (k + 1) y x
    one x y =
        or_assoc (interfere records k y x) (eqb a x && eqb b y) (eqb b x && eqb a y)
        ∙ ap (λ (s : Bool). interfere records k y x || s) (or_comm (eqb a x && eqb b y) (eqb b x && eqb a y))
        ∙ ap (λ (s : Bool). interfere records k y x || (s || (eqb a x && eqb b y))) (and_comm (eqb b x) (eqb a y))
        ∙ sym (some_one k _)

-- turn k of the marks of one probe: its row has the next probe, of another level; of its own level; or does not have it
module _ (level : ℕ → ℕ) (row : ℕ → Bool) (a k : ℕ) (start : List (List Bool)) where
  turn : levels_marked (k + 1) level row a start
      ≡ cond (row (k + 2) && not (eqb a (level (k + 2)))) (marked places (levels_marked k level row a start) a (level (k + 2))) (levels_marked k level row a start)
  unfolding levels_marked
  turn = for_each-one k _ start

  pub turn-other : (t : List (List Bool)) → t ≡ levels_marked k level row a start → row (k + 2) ≡ true → (a ≡ level (k + 2) → ⊥)
      → marked places t a (level (k + 2)) ≡ levels_marked (k + 1) level row a start
  turn-other t e r n = ap (λ (u : List (List Bool)). marked places u a (level (k + 2))) e ∙ sym (turn ∙ simp (r, ne_eqb a (level (k + 2)) n))

  pub turn-own : (t : List (List Bool)) → t ≡ levels_marked k level row a start → row (k + 2) ≡ true → a ≡ level (k + 2)
      → t ≡ levels_marked (k + 1) level row a start
  turn-own t e r n = e ∙ sym (turn ∙ simp (r, eq-eqb a (level (k + 2)) n))

  pub turn-none : (t : List (List Bool)) → t ≡ levels_marked k level row a start → row (k + 2) ≡ false → t ≡ levels_marked (k + 1) level row a start
  turn-none t e r = e ∙ sym (turn ∙ simp r)

-- an empty row leaves no mark
pub empty-row : (p : ℕ) (level : ℕ → ℕ) (row : ℕ → Bool) (a : ℕ) (t : List (List Bool)) → ((y : ℕ) → row y ≡ false) → levels_marked p level row a t ≡ t
unfolding levels_marked for_each
empty-row p level row a t none = for_each-stays 0 p _ t t (omega arith) refl (λ k hi hk. simp (none (k + 2)))

own-level : (f n s l d : Bool) → (s ≡ true → l ≡ true → n ≡ true) → (f || (not n && (s && d))) ≡ (f || (not n && (s && (d || (l && true)))))
own-level f n false l d e = refl
own-level f n true false d e = ap (λ (z : Bool). f || (not n && z)) (sym (or-false d))
own-level f n true true d e =
    subst (λ (z : Bool). (f || (not z && d)) ≡ (f || (not z && (d || true)))) (sym (e refl refl)) refl

other-level : (f n s l d : Bool) → (s ≡ true → l ≡ true → n ≡ false)
    → (f || (not n && (s && d)) || (s && l)) ≡ (f || (not n && (s && (d || (l && true)))))
other-level f n false l d e = or-false (f || (not n && false))
other-level f n true false d e = or-false (f || (not n && d)) ∙ ap (λ (z : Bool). f || (not n && z)) (sym (or-false d))
other-level f n true true d e =
    subst (λ (z : Bool). (f || (not z && d) || true) ≡ (f || (not z && (d || true)))) (sym (e refl refl)) (or_assoc f d true)

-- a relation to which level a with each other level that is met is added
abbrev with_levels : (ℕ → ℕ → Bool) → ℕ → (ℕ → Bool) → ℕ → ℕ → Bool
with_levels f a met c d = f c d || (not (eqb c d) && (eqb a c && met d))

-- what one more probe of a row adds to the relation
module _ (f : ℕ → ℕ → Bool) (met : ℕ → Bool) (a : ℕ) where
  level-marked : (l : ℕ) (r : Bool)
      → cond (r && not (eqb a l)) (marked places (table_of (with_levels f a met)) a l) (table_of (with_levels f a met))
      ≡ table_of (with_levels f a (λ d. met d || (eqb l d && r)))
  level-marked l true = go (eqb a l) refl
    where
      go : (m : Bool) → eqb a l ≡ m
          → cond (true && not m) (marked places (table_of (with_levels f a met)) a l) (table_of (with_levels f a met))
          ≡ table_of (with_levels f a (λ d. met d || (eqb l d && true)))
      go true e =
          table_same (with_levels f a met) (with_levels f a (λ d. met d || (eqb l d && true)))
          (λ c hc d hd. own-level (f c d) (eqb c d) (eqb a c) (eqb l d) (met d)
          (λ p q. eq-eqb c d (sym (eqb-true a c p) ∙ eqb-true a l e ∙ eqb-true l d q)))
      go false e =
          marked-table places (with_levels f a met) a l
          ∙ table_same (λ c d. with_levels f a met c d || (eqb a c && eqb l d)) (with_levels f a (λ d. met d || (eqb l d && true)))
          (λ c hc d hd. other-level (f c d) (eqb c d) (eqb a c) (eqb l d) (met d)
          (λ p q. ne_eqb c d (λ z. eqb-false a l e (eqb-true a c p ∙ z ∙ sym (eqb-true l d q)))))
  level-marked l false =
      table_same (with_levels f a met) (with_levels f a (λ d. met d || (eqb l d && false)))
      (λ c hc d hd. ap (λ (z : Bool). f c d || (not (eqb c d) && (eqb a c && z))) (sym (ap (λ (z : Bool). met d || z) (and-false (eqb l d)) ∙ or-false (met d))))

-- the marks of one probe add its level and the levels in its row to the relation
levels-marked : (level : ℕ → ℕ) (row : ℕ → Bool) (a : ℕ) (f : ℕ → ℕ → Bool) (p : ℕ)
    → levels_marked p level row a (table_of f) ≡ table_of (with_levels f a (λ d. some p (λ k. eqb (level (k + 2)) d && row (k + 2))))
unfolding levels_marked for_each some
levels-marked level row a f zero =
    table_same f _ (λ c hc d hd. sym (ap (λ (z : Bool). f c d || (not (eqb c d) && z)) (and-false (eqb a c))
    ∙ ap (λ (z : Bool). f c d || z) (and-false (not (eqb c d))) ∙ or-false (f c d)))
levels-marked level row a f (suc k) =
    ap (λ (t : List (List Bool)). cond (row (k + 2) && not (eqb a (level (k + 2)))) (marked places t a (level (k + 2))) t) (levels-marked level row a f k)
    ∙ level-marked f (λ d. some k (λ k. eqb (level (k + 2)) d && row (k + 2))) a (level (k + 2)) (row (k + 2))

-- two levels conflict by the first k probes of one of them
unfoldable pub levels_met : ℕ → ℕ → (ℕ → ℕ) → (ℕ → ℕ → Bool) → ℕ → ℕ → Bool
levels_met k p level relation a b =
    not (eqb a b) && some_probe k (λ x. eqb (level x) a && some_probe p (λ y. eqb (level y) b && relation x y))

pub level-table-next : (k p : ℕ) (level : ℕ → ℕ) (relation : ℕ → ℕ → Bool) (t : List (List Bool))
    → t ≡ table_of (levels_met k p level relation)
    → levels_marked p level (relation (k + 2)) (level (k + 2)) t ≡ table_of (levels_met (k + 1) p level relation)
unfolding levels_met
level-table-next k p level relation t e =
    ap (levels_marked p level (relation (k + 2)) (level (k + 2))) e
    ∙ levels-marked level (relation (k + 2)) (level (k + 2)) (levels_met k p level relation) p
    ∙ table_same _ (levels_met (k + 1) p level relation)
    (λ a ha b hb. sym (ap (λ (z : Bool). not (eqb a b) && z) (some_one k _) ∙ and-or_distrib_left (not (eqb a b)) _ _))

pub level-table-full : (p : ℕ) (level : ℕ → ℕ) (relation : ℕ → ℕ → Bool) → table_of (levels_met p p level relation) ≡ table_of (levels_conflict p level relation)
unfolding levels_met levels_conflict
level-table-full p level relation = refl

pub no-levels : (p : ℕ) (level : ℕ → ℕ) (relation : ℕ → ℕ → Bool) (a b : ℕ) → levels_met 0 p level relation a b ≡ false
unfolding levels_met some
no-levels p level relation a b = and-false (not (eqb a b))
