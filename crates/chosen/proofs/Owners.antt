-- The owners of a colour: taken one by one they are all of them, since no two of one colour conflict. By what each turn adds to those taken.
use mathlib.Core.Path.{◌≡◌, refl, sym, ap, ap₂, ◌∙◌}
use mathlib.Core.Bool.{Bool, true, false, cond, not, ◌&&◌, and-true, and-false}
use mathlib.Core.List.{List}
use mathlib.Core.Logic.{◌⊎◌, inl, inr, ◌≢◌, ⊎_elim}
use Prim.Native.Nat.{ℕ, zero, suc, ◌+◌, ◌≤◌, ◌<◌}
use native.Mathlib.Decide.{dec_lt}
use native.Mathlib.Omega.{arith}
use borrow.Author.Tests.{eqb-true, ne_eqb, lt-ltb, le-ltb}
use lib.Dec.{eqb, ltb}
use lib.ListN.{length, get_or, set}
use Rattle.meaning.specs.Words.{for_each, tab, places}
use Rattle.meaning.specs.Yard.{is_probe}
use Rattle.meaning.specs.Rounds.{clashes, joins, joined, owners_by_probe, owners_by_level}
use Rattle.laws.proofs.Turns.{for_each-same, none-some, tab-same, get_or-places, set-tab, same-or-other}
use Rattle.laws.proofs.Walk.{probe-below, probe-past}
use Rattle.laws.proofs.Slots.{Only, only-joined, and_left, and_right, never}
use Rattle.laws.proofs.Joining.{joined-long, nobody-chosen}
use Rattle.chosen.specs.Kept.{nobody}

nobody-tab : nobody ≡ tab places (λ _. false)
unfolding tab
nobody-tab = refl

less-or-not : (a b : ℕ) → (a < b) ⊎ (b ≤ a)
less-or-not a b = go (dec_lt a b)
  where
    go : Dec (a < b) → (a < b) ⊎ (b ≤ a)
    go (yes l) = inl l
    go (no l) = inr (omega arith)

module _ (p : ℕ) (relation : ℕ → ℕ → Bool) (colour : ℕ → ℕ) (s : ℕ) (may : ℕ → Bool) (small : p ≤ 63) (given : 1 ≤ s)
    (apart : (x y : ℕ) → relation x y ≡ true → colour x ≡ colour y → ⊥) (none : (v : ℕ) → is_probe p v ≡ false → colour v ≡ 0) where
  -- who has the colour and may send
  abbrev mine : ℕ → Bool
  mine v = eqb (colour v) s && may v

  -- of those, the first k probes
  abbrev first : ℕ → ℕ → Bool
  first k v = mine v && ltb v (k + 2)

  has : (v : ℕ) → mine v ≡ true → colour v ≡ s
  has v m = eqb-true (colour v) s (and_left (eqb (colour v) s) (may v) m)

  not-mine : (v : ℕ) → is_probe p v ≡ false → mine v ≡ false
  not-mine v e = ap (λ (b : Bool). b && may v) (ne_eqb (colour v) s (λ q. omega (arith, none v e, q)))

  flag : (k x : ℕ) → get_or (tab places (first k)) x false ≡ first k x
  flag k = get_or-places (first k) false (λ j hj. ap (λ (t : Bool). t && ltb j (k + 2)) (not-mine j (probe-past p j (omega arith))))

  -- one of the colour conflicts with none of it
  clear : (k : ℕ) → k + 2 < places → mine (k + 2) ≡ true → clashes relation (tab places (first k)) (k + 2) ≡ false
  clear k h m =
      none-some places (λ x. get_or (tab places (first k)) x false && relation x (k + 2))
      (λ x hx. go x (mine x) refl (relation x (k + 2)) refl)
    where
      go : (x : ℕ) (b : Bool) → mine x ≡ b → (c : Bool) → relation x (k + 2) ≡ c → (get_or (tab places (first k)) x false && relation x (k + 2)) ≡ false
      go x b mx false r = ap (λ (t : Bool). get_or (tab places (first k)) x false && t) r ∙ and-false (get_or (tab places (first k)) x false)
      go x true mx true r =
          absurd (apart x (k + 2) r (has x mx ∙ sym (has (k + 2) m)))
      go x false mx true r =
          ap (λ (t : Bool). t && relation x (k + 2)) (flag k x ∙ ap (λ (t : Bool). t && ltb x (k + 2)) mx)

  all-taken : (k : ℕ) → k ≤ p → joined k relation mine nobody ≡ tab places (first k)
  unfolding joined for_each
  all-taken zero h =
      begins ∙ tab-same places (λ _. false) (first 0) (λ v hv. sym (two v))
    where
      begins : nobody ≡ tab places (λ _. false)
      begins = nobody-tab

      two : (v : ℕ) → first 0 v ≡ false
      two v =
          ⊎_elim (λ (l : v < 2). ap (λ (b : Bool). b && ltb v 2) (not-mine v (probe-below p v l)))
          (λ (l : 2 ≤ v). ap (λ (b : Bool). mine v && b) (le-ltb v 2 l) ∙ and-false (mine v))
          (less-or-not v 2)
  all-taken (suc k) h = ap (joins relation mine (k + 2)) (all-taken k (omega arith)) ∙ go (mine (k + 2)) refl
    where
      later : (j : ℕ) → (j ≡ k + 2 → ⊥) → ltb j (suc k + 2) ≡ ltb j (k + 2)
      later j other =
          ⊎_elim (λ (l : j < k + 2). lt-ltb j (suc k + 2) (omega arith) ∙ sym (lt-ltb j (k + 2) l))
          (λ (l : k + 2 ≤ j). le-ltb j (suc k + 2) (omega arith) ∙ sym (le-ltb j (k + 2) l))
          (less-or-not j (k + 2))

      was : List Bool
      was = tab places (first k)

      go : (b : Bool) → mine (k + 2) ≡ b → joins relation mine (k + 2) was ≡ tab places (first (suc k))
      go true m =
          ap (λ (b : Bool). cond b (set was (k + 2) true) was)
          (ap₂ (λ (a b : Bool). a && not b) m (clear k (omega arith) m))
          ∙ set-tab places (first k) (first (suc k)) (k + 2) true false (omega arith)
          (ap₂ ◌&&◌ m (lt-ltb (k + 2) (suc k + 2) (omega arith)))
          (λ j other. ap (λ (b : Bool). mine j && b) (later j other))
      go false m =
          ap (λ (b : Bool). cond (b && not (clashes relation was (k + 2))) (set was (k + 2) true) was) m
          ∙ tab-same places (first k) (first (suc k))
          (λ j hj.
          ⊎_elim
          (λ (e : j ≡ k + 2).
          let none' : mine j ≡ false = ap mine e ∙ m in
          ap (λ (b : Bool). b && ltb j (k + 2)) none' ∙ sym (ap (λ (b : Bool). b && ltb j (suc k + 2)) none'))
          (λ (e : j ≢ k + 2). ap (λ (b : Bool). mine j && b) (sym (later j e)))
          (same-or-other j (k + 2)))

  -- taken one by one, they are all of them
  pub one_by_one : owners_by_level p relation colour s may ≡ owners_by_probe colour s may
  unfolding owners_by_level owners_by_probe
  one_by_one =
      all-taken p (omega arith)
      ∙ tab-same places (first p) mine
      (λ v hv.
      ⊎_elim (λ (l : v < p + 2). ap (λ (b : Bool). mine v && b) (lt-ltb v (p + 2) l) ∙ and-true (mine v))
      (λ (l : p + 2 ≤ v).
      let none' : mine v ≡ false = not-mine v (probe-past p v (omega arith)) in
      ap (λ (b : Bool). b && ltb v (p + 2)) none' ∙ sym none')
      (less-or-not v (p + 2)))

-- only who of the probes may matters, and so only their colours
pub joined_same : (p : ℕ) (relation : ℕ → ℕ → Bool) (a b : ℕ → Bool) (chosen : List Bool) → ((k : ℕ) → k < p → a (k + 2) ≡ b (k + 2))
    → joined p relation a chosen ≡ joined p relation b chosen
unfolding joined
joined_same p relation a b chosen same =
    for_each-same p (λ k. joins relation a (k + 2)) (λ k. joins relation b (k + 2)) chosen
    (λ k h now. ap (λ (c : Bool). cond (c && not (clashes relation now (k + 2))) (set now (k + 2) true) now) (same k h))

pub owners-same : (p : ℕ) (relation : ℕ → ℕ → Bool) (a b : ℕ → ℕ) (s : ℕ) (may : ℕ → Bool) → ((k : ℕ) → k < p → a (k + 2) ≡ b (k + 2))
    → owners_by_level p relation a s may ≡ owners_by_level p relation b s may
unfolding owners_by_level
owners-same p relation a b s may same =
    joined_same p relation (λ v. eqb (a v) s && may v) (λ v. eqb (b v) s && may v) nobody (λ k h. ap (λ (c : ℕ). eqb c s && may (k + 2)) (same k h))

module _ (p : ℕ) (relation : ℕ → ℕ → Bool) (own : ℕ → ℕ) (s : ℕ) (may : ℕ → Bool) where
  pub owners-long : length (owners_by_level p relation own s may) ≡ places
  unfolding owners_by_level
  owners-long = joined-long relation (λ v. eqb (own v) s && may v) p nobody

  -- who owns the slot has its colour and may send
  pub owner-may : Only (λ v. eqb (own v) s && may v) (owners_by_level p relation own s may)
  unfolding owners_by_level
  owner-may = only-joined p relation (λ v. eqb (own v) s && may v) nobody (λ u h. never (sym (nobody-chosen places u) ∙ h))

  pub only-owners : Only may (owners_by_level p relation own s may)
  only-owners v e = and_right (eqb (own v) s) (may v) (owner-may v e)
