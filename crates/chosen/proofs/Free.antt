-- Who is to send if its turn comes now: the flags that the slot's writer goes by, as those chosen grow from the owners on.
use mathlib.Core.Path.{◌≡◌, refl, sym, ap, ap₂, ◌∙◌, subst}
use mathlib.Core.Bool.{Bool, true, false, cond, not, ◌&&◌, ◌||◌, or-true, or-false}
use mathlib.Core.List.{List}
use mathlib.Core.Logic.{⊎_elim}
use Prim.Native.Nat.{ℕ, zero, suc, ◌+◌, ◌≤◌, ◌<◌}
use native.Mathlib.Numerals.{add-one}
use native.Mathlib.Omega.{arith}
use lib.ListN.{length, get_or, set}
use lib.Seq.{get_or-set_same, get_or-set_other, set-get_or}
use Rattle.meaning.specs.Words.{for_each, tab, places}
use Rattle.meaning.specs.Rounds.{clashes, joins, joined}
use Rattle.laws.proofs.Slots.{never}
use Rattle.laws.proofs.Joining.{joined-long}
use Rattle.laws.proofs.Turns.{below-or-last, for_each-one, tab-same, get_or-tab}
use Rattle.chosen.specs.Kept.{blocked_by, NextFree}
use Rattle.chosen.proofs.Taking.{some-set, flag-final}
use Rattle.chosen.proofs.Writing.{Writing, writing_pass}

-- the owners, and who may and conflicts with none chosen when the first k probes have had their turn
abbrev pub free_by : (ℕ → ℕ → Bool) → (ℕ → Bool) → List Bool → ℕ → List Bool
free_by relation may owners k = tab places (λ v. get_or owners v false || may v && not (clashes relation (joined k relation may owners) v))

module _ (relation : ℕ → ℕ → Bool) (may : ℕ → Bool) (owners : List Bool) (long : length owners ≡ places) where
  abbrev after : ℕ → List Bool
  after k = joined k relation may owners

  abbrev can : ℕ → ℕ → Bool
  can k v = may v && not (clashes relation (after k) v)

  pub free-start : (blocked free : List Bool) → blocked ≡ blocked_by relation owners
      → free ≡ tab places (λ v. get_or owners v false || may v && not (get_or blocked v false)) → free ≡ free_by relation may owners 0
  unfolding joined for_each
  free-start blocked free knows made =
      made
      ∙ tab-same places (λ v. get_or owners v false || may v && not (get_or blocked v false)) (λ v. get_or owners v false || can 0 v)
      (λ v h.
      ap (λ (b : Bool). get_or owners v false || may v && not b)
      (ap (λ (l : List Bool). get_or l v false) knows ∙ get_or-tab places (clashes relation owners) v false h))

  -- before its turn a probe is chosen only if it is an owner
  untouched : (k v : ℕ) → k + 2 ≤ v → get_or (after k) v false ≡ get_or owners v false
  unfolding joined for_each
  untouched zero v h = refl
  untouched (suc k) v h = other (can k (k + 2)) ∙ untouched k v (omega arith)
    where
      other : (b : Bool) → get_or (cond b (set (after k) (k + 2) true) (after k)) v false ≡ get_or (after k) v false
      other true = get_or-set_other (after k) (k + 2) v true false (omega arith)
      other false = refl

  one_more : (k : ℕ) → after (k + 1) ≡ cond (can k (k + 2)) (set (after k) (k + 2) true) (after k)
  unfolding joined
  one_more k = for_each-one k (λ j. joins relation may (j + 2)) owners

  module _ (k : ℕ) (small : k + 2 < places) (free : List Bool) (is : free ≡ free_by relation may owners k) where
    at : (v : ℕ) → v < places → get_or free v false ≡ (get_or owners v false || can k v)
    at v h = ap (λ (l : List Bool). get_or l v false) is ∙ get_or-tab places (λ u. get_or owners u false || can k u) v false h

    -- whether the probe whose turn it is sends
    pub free-says : (p : ℕ) → k < p → get_or (after p) (k + 2) false ≡ get_or free (k + 2) false
    free-says p h =
        sym (flag-final relation may owners k p h) ∙ ap (λ (l : List Bool). get_or l (k + 2) false) (one_more k) ∙ go (can k (k + 2)) ∙ sym (at (k + 2) small)
      where
        go : (b : Bool) → get_or (cond b (set (after k) (k + 2) true) (after k)) (k + 2) false ≡ (get_or owners (k + 2) false || b)
        go true =
            get_or-set_same (after k) (k + 2) true false (omega (arith, joined-long relation may k owners, long)) ∙ sym (or-true (get_or owners (k + 2) false))
        go false = untouched k (k + 2) (omega arith) ∙ sym (or-false (get_or owners (k + 2) false))

    -- it does not: nobody is shut
    pub free-pass : get_or free (k + 2) false ≡ false → free ≡ free_by relation may owners (k + 1)
    free-pass e =
        is
        ∙ ap (λ (l : List Bool). tab places (λ v. get_or owners v false || may v && not (clashes relation l v)))
        (sym
        (one_more k
        ∙ ap (λ (b : Bool). cond b (set (after k) (k + 2) true) (after k)) (right (get_or owners (k + 2) false) (can k (k + 2)) (sym (at (k + 2) small) ∙ e))))
      where
        right : (a b : Bool) → (a || b) ≡ false → b ≡ false
        right true b q = never (sym q)
        right false b q = q

    module _ (e : get_or free (k + 2) false ≡ true) where
      -- it does: then it is chosen, if it was not already as an owner
      now-chosen : after (k + 1) ≡ set (after k) (k + 2) true
      now-chosen = one_more k ∙ go (can k (k + 2)) refl
        where
          go : (b : Bool) → can k (k + 2) ≡ b → cond b (set (after k) (k + 2) true) (after k) ≡ set (after k) (k + 2) true
          go true q = refl
          go false q =
              let owner : get_or owners (k + 2) false ≡ true =
              sym (or-false (get_or owners (k + 2) false)) ∙ ap (λ (b : Bool). get_or owners (k + 2) false || b) (sym q) ∙ sym (at (k + 2) small) ∙ e
              in
              sym (set-get_or (after k) (k + 2) false) ∙ ap (λ (b : Bool). set (after k) (k + 2) b) (untouched k (k + 2) (omega arith) ∙ owner)

      more-clashes : (v : ℕ) → clashes relation (after (k + 1)) v ≡ (clashes relation (after k) v || relation (k + 2) v)
      more-clashes v =
          ap (λ (l : List Bool). clashes relation l v) now-chosen
          ∙ some-set places relation (after k) (k + 2) v small (omega (arith, joined-long relation may k owners, long))

      -- and whom it conflicts with is shut
      pub free-put : (row free' : List Bool) → ((v : ℕ) → get_or row v false ≡ relation (k + 2) v)
          → free' ≡ tab places (λ v. get_or owners v false || get_or free v false && not (get_or row v false)) → free' ≡ free_by relation may owners (k + 1)
      free-put row free' says made =
          made
          ∙ tab-same places (λ v. get_or owners v false || get_or free v false && not (get_or row v false)) (λ v. get_or owners v false || can (k + 1) v)
          (λ v h.
          ap₂ (λ (o r : Bool). get_or owners v false || o && not r) (at v h) (says v)
          ∙ shuts (get_or owners v false) (may v) (clashes relation (after k) v) (relation (k + 2) v)
          ∙ ap (λ (c : Bool). get_or owners v false || may v && not c) (sym (more-clashes v)))
        where
          shuts : (o m c r : Bool) → (o || (o || m && not c) && not r) ≡ (o || m && not (c || r))
          shuts true m c r = refl
          shuts false false c r = refl
          shuts false true true r = refl
          shuts false true false r = refl

  -- places that are not free change nothing: at the next free place the senders so far, and who is free, are those at k
  module _ (p : ℕ) (few : p ≤ 63) (d rest : List ℕ) (free : List Bool) (n k : ℕ) where
    abbrev SoFar : ℕ → Type 0
    SoFar j = Writing (λ v. get_or (after p) v false) p d rest n j × (free ≡ free_by relation may owners j)

    skip-one : (j : ℕ) → j < p → get_or free (j + 2) false ≡ false → SoFar j → SoFar (j + 1)
    skip-one j h e now =
        let small : j + 2 < places = omega arith in
        (writing_pass _ p d rest n j now.0 h (free-says j small free now.1 p h ∙ e), free-pass j small free now.1 e)

    skip : SoFar k → (j : ℕ) → k ≤ j → j ≤ p → ((i : ℕ) → i < j → k ≤ i → get_or free (i + 2) false ≡ false) → SoFar j
    skip now zero h most passed =
        let none : k ≡ 0 = omega arith in
        subst SoFar none now
    skip now (suc j) h most passed =
        ⊎_elim
        (λ (l : k < suc j).
        rw (add-one j) at (skip-one j most (passed j (omega arith) (omega arith)) (skip now j (omega arith) (omega arith) (λ i hi. passed i (omega arith)))))
        (λ (l : k ≡ suc j). subst SoFar l now)
        (below-or-last k (suc j) (omega arith))

    pub next-free : (r : ℕ) → NextFree free k p r → SoFar k → SoFar r
    next-free r next now = skip now r next.onward next.within next.passed
