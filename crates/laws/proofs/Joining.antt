-- Who is chosen for a slot: who is chosen stays chosen, and those that are chosen do not conflict. By what each turn of joining keeps.
use mathlib.Core.Path.{◌≡◌, refl, sym, ap, ap₂, ◌∙◌, subst}
use mathlib.Core.Bool.{Bool, true, false, cond, not, ◌&&◌}
use mathlib.Core.List.{List, [], ◌∷◌}
use mathlib.Core.Logic.{◌≢◌, ⊎_elim}
use Prim.Native.Nat.{ℕ, zero, suc, ◌+◌, ◌-◌, ◌≤◌, ◌<◌}
use native.Mathlib.Nat.{not-suc-le-zero}
use native.Mathlib.Decide.{dec_lt}
use native.Mathlib.Omega.{arith}
use borrow.Author.Tests.{not-true}
use lib.ListN.{length, get_or, set, replicate, length-set, length-append, get_or-eq_default}
use lib.Seq.{get_or-set_same, get_or-set_other}
use Rattle.meaning.specs.Words.{for_each, places, some_probe, probes_that}
use Rattle.meaning.specs.Rounds.{joins, joined, clashes, slot_of}
use Rattle.laws.proofs.Turns.{below-or-last, for_each-one, for_each-keeps, some-found, some-none, some-where, same-or-other}
use Rattle.laws.proofs.Walk.{not-both}
use Rattle.laws.proofs.Moving.{Each}
use Rattle.laws.proofs.Slots.{and_left, and_right, never, true-or-false, each-probe}
use Rattle.laws.proofs.Colouring.{Conflicts}

-- v is chosen
abbrev pub Chosen : List Bool → ℕ → Type 0
Chosen chosen v = get_or chosen v false ≡ true

-- no two that are chosen conflict
abbrev pub Free : (ℕ → ℕ → Bool) → List Bool → Type 0
Free relation chosen = (x y : ℕ) → Chosen chosen x → Chosen chosen y → relation x y ≡ false

pub nobody-chosen : (n v : ℕ) → get_or (replicate n false) v false ≡ false
nobody-chosen zero v = refl
nobody-chosen (suc n) zero = refl
nobody-chosen (suc n) (suc v) = nobody-chosen n v

module _ (relation : ℕ → ℕ → Bool) (may : ℕ → Bool) where
  joins_long : (u : ℕ) (chosen : List Bool) → length (joins relation may u chosen) ≡ length chosen
  joins_long u chosen = go (may u && not (clashes relation chosen u))
    where
      go : (b : Bool) → length (cond b (set chosen u true) chosen) ≡ length chosen
      go true = length-set chosen u true
      go false = refl

  pub joined-long : (p : ℕ) (chosen : List Bool) → length (joined p relation may chosen) ≡ length chosen
  unfolding joined
  joined-long p chosen =
      for_each-keeps (λ (l : List Bool). length l ≡ length chosen) p (λ k. joins relation may (k + 2)) chosen refl
      (λ k _ l e. joins_long (k + 2) l ∙ e)

  -- who is chosen stays chosen
  joins-keep : (u v : ℕ) (chosen : List Bool) → v < length chosen → Chosen chosen v → Chosen (joins relation may u chosen) v
  joins-keep u v chosen h e = go (may u && not (clashes relation chosen u))
    where
      go : (b : Bool) → Chosen (cond b (set chosen u true) chosen) v
      go false = e
      go true =
          ⊎_elim (λ (q : v ≡ u). subst (λ (j : ℕ). get_or (set chosen j true) v false ≡ true) q (get_or-set_same chosen v true false h))
          (λ (q : v ≢ u). get_or-set_other chosen u v true false q ∙ e)
          (same-or-other v u)

  pub joined-keep : (k p v : ℕ) (chosen : List Bool) → k ≤ p → v < length chosen → Chosen (joined k relation may chosen) v → Chosen (joined p relation may chosen) v
  unfolding joined for_each
  joined-keep k zero v chosen h l e =
      let none : k ≡ 0 = omega arith in
      subst (λ (j : ℕ). Chosen (joined j relation may chosen) v) none e
  joined-keep k (suc p) v chosen h l e =
      ⊎_elim
      (λ (b : k < suc p).
      joins-keep (p + 2) v (joined p relation may chosen) (omega (arith, joined-long p chosen)) (joined-keep k p v chosen (omega arith) l e))
      (λ (b : k ≡ suc p). subst (λ (j : ℕ). Chosen (joined j relation may chosen) v) b e)
      (below-or-last k (suc p) (omega arith))

  module _ (first many : ℕ) (conflicts : Conflicts relation first many) (nodes : first + many ≤ places) where
    -- who joins conflicts with none that is chosen
    joiner-free : (u : ℕ) (chosen : List Bool) → clashes relation chosen u ≡ false → (x : ℕ) → Chosen chosen x → relation x u ≡ false
    joiner-free u chosen none x e =
        ⊎_elim
        (λ (r : relation x u ≡ true).
        let node = (conflicts.within x u r).1 in
        not-both (ap₂ ◌&&◌ e r) (some-none places (λ y. get_or chosen y false && relation y u) none x (omega (arith, node))))
        (λ (r : relation x u ≡ false). r)
        (true-or-false (relation x u))

    other_way : (x y : ℕ) → relation x y ≡ false → relation y x ≡ false
    other_way x y e =
        ⊎_elim (λ (r : relation y x ≡ true). not-both (conflicts.both_ways y x r) e) (λ (r : relation y x ≡ false). r)
        (true-or-false (relation y x))

    free-joins : (u : ℕ) (chosen : List Bool) → Free relation chosen → Free relation (joins relation may u chosen)
    free-joins u chosen free = go (may u && not (clashes relation chosen u)) refl
      where
        go : (b : Bool) → (may u && not (clashes relation chosen u)) ≡ b → Free relation (cond b (set chosen u true) chosen)
        go false t x y hx hy = free x y hx hy
        go true t x y hx hy =
            let none = not-true (clashes relation chosen u) (and_right (may u) (not (clashes relation chosen u)) t) in
            ⊎_elim
            (λ (p : x ≡ u).
            ⊎_elim
            (λ (q : y ≡ u). ap₂ relation p q ∙ conflicts.never_itself u)
            (λ (q : y ≢ u).
            ap (λ (z : ℕ). relation z y) p
            ∙ other_way y u (joiner-free u chosen none y (sym (get_or-set_other chosen u y true false q) ∙ hy)))
            (same-or-other y u))
            (λ (p : x ≢ u).
            let was : Chosen chosen x = sym (get_or-set_other chosen u x true false p) ∙ hx in
            ⊎_elim
            (λ (q : y ≡ u). ap (relation x) q ∙ joiner-free u chosen none x was)
            (λ (q : y ≢ u). free x y was (sym (get_or-set_other chosen u y true false q) ∙ hy))
            (same-or-other y u))
            (same-or-other x u)

    pub free-joined : (p : ℕ) (chosen : List Bool) → Free relation chosen → Free relation (joined p relation may chosen)
    unfolding joined
    free-joined p chosen free =
        for_each-keeps (Free relation) p (λ k. joins relation may (k + 2)) chosen free (λ k _ l h. free-joins (k + 2) l h)

    -- where a probe may join, one is chosen: it, or one that it conflicts with
    pub one-joined : (p k : ℕ) (chosen : List Bool) → length chosen ≡ places → k < p → first + many ≤ p + 2 → 2 ≤ first → k + 2 < places → may (k + 2) ≡ true
        → some_probe p (λ v. get_or (joined p relation may chosen) v false) ≡ true
    unfolding joined
    one-joined p k chosen long h all from node m = go (clashes relation (joined k relation may chosen) (k + 2)) refl
      where
        now : List Bool
        now = joined k relation may chosen

        turn : joined (k + 1) relation may chosen ≡ joins relation may (k + 2) now
        turn = for_each-one k (λ j. joins relation may (j + 2)) chosen

        go : (b : Bool) → clashes relation now (k + 2) ≡ b → some_probe p (λ v. get_or (joined p relation may chosen) v false) ≡ true
        go false e =
            some-found p (λ j. get_or (joined p relation may chosen) (j + 2) false) k h
            (joined-keep (k + 1) p (k + 2) chosen (omega arith) (omega (arith, long))
            (ap (λ (l : List Bool). get_or l (k + 2) false)
            (turn ∙ ap₂ (λ (a b : Bool). cond (a && not b) (set now (k + 2) true) now) m e)
            ∙ get_or-set_same now (k + 2) true false (omega (arith, joined-long k chosen, long))))
        go true e =
            let found = some-where places (λ x. get_or now x false && relation x (k + 2)) e in
            let x : ℕ = found.0 in
            let probe = conflicts.within x (k + 2) (and_right (get_or now x false) (relation x (k + 2)) found.2) in
            let its : x - 2 + 2 ≡ x = omega (arith, probe.0) in
            some-found p (λ j. get_or (joined p relation may chosen) (j + 2) false) (x - 2) (omega (arith, probe.0, probe.1))
            (subst (λ (v : ℕ). Chosen (joined p relation may chosen) v) (sym its)
            (joined-keep k p x chosen (omega arith) (omega (arith, found.1, long)) (and_left (get_or now x false) (relation x (k + 2)) found.2)))

  -- the senders of a slot are chosen
  pub each_chosen : (p : ℕ) (owners : List Bool) → Each (Chosen (joined p relation may owners)) (slot_of p relation may owners)
  unfolding slot_of Each
  each_chosen p owners = each-probe (Chosen (joined p relation may owners)) p (λ v. get_or (joined p relation may owners) v false) (λ k _ e. e)

-- a probe that passes is a sender
some-sender : (p : ℕ) (test : ℕ → Bool) (k : ℕ) → k < p → test (k + 2) ≡ true → 1 ≤ length (probes_that p test)
unfolding probes_that
some-sender zero test k h e = absurd (not-suc-le-zero h)
some-sender (suc p) test k h e =
    let whole = length-append (probes_that p test) (cond (test (p + 2)) ((p + 2) ∷ []) []) in
    ⊎_elim (λ (l : k < p). omega (arith, whole, some-sender p test k l e))
    (λ (l : k ≡ p).
    let last : length (cond (test (p + 2)) ((p + 2) ∷ []) []) ≡ 1 =
    ap (λ (b : Bool). length (cond b ((p + 2) ∷ []) [])) (subst (λ (j : ℕ). test (j + 2) ≡ true) l e) in
    omega (arith, whole, last))
    (below-or-last k p h)

-- one that is chosen has its place among the flags
pub chosen-within : (chosen : List Bool) (v : ℕ) → Chosen chosen v → v < length chosen
chosen-within chosen v e = go (dec_lt v (length chosen))
  where
    go : Dec (v < length chosen) → v < length chosen
    go (yes l) = l
    go (no l) = never (sym (get_or-eq_default chosen false {n = v} (omega arith)) ∙ e)

-- where there is an owner, its slot has a sender
pub owned-slot : (p : ℕ) (relation : ℕ → ℕ → Bool) (may : ℕ → Bool) (owners : List Bool) → some_probe p (λ v. get_or owners v false) ≡ true
    → 1 ≤ length (slot_of p relation may owners)
unfolding slot_of joined for_each
owned-slot p relation may owners e =
    let found = some-where p (λ k. get_or owners (k + 2) false) e in
    let k : ℕ = found.0 in
    some-sender p (λ v. get_or (joined p relation may owners) v false) k found.1
    (joined-keep relation may 0 p (k + 2) owners (omega arith) (chosen-within owners (k + 2) found.2) found.2)
