-- Probes taken one by one: what taking one more changes. By which of the probes it is, and from turn to turn.
use mathlib.Core.Path.{◌≡◌, refl, sym, ap, ap₂, ◌∙◌, subst}
use mathlib.Core.Bool.{Bool, true, false, cond, not, ◌&&◌, ◌||◌, and-false, or-true, or-false, or_self}
use mathlib.Core.List.{List}
use mathlib.Core.Logic.{◌≢◌, ⊎_elim}
use Prim.Native.Nat.{ℕ, zero, suc, ◌+◌, ◌<◌}
use native.Mathlib.Nat.{not-suc-le-zero}
use native.Mathlib.Omega.{arith}
use lib.ListN.{length, get_or, set}
use lib.Seq.{get_or-set_same, get_or-set_other}
use Rattle.meaning.specs.Words.{for_each, some, tab, places}
use Rattle.meaning.specs.Rounds.{clashes, joins, joined}
use Rattle.chosen.specs.Kept.{blocked_by, Considered, Joining}
use Rattle.laws.proofs.Turns.{below-or-last, for_each-one, some_same, tab-same, get_or-tab}

-- one more is chosen: it blocks all that it conflicts with
pub some-set : (n : ℕ) (relation : ℕ → ℕ → Bool) (chosen : List Bool) (v i : ℕ) → v < n → v < length chosen
    → some n (λ x. get_or (set chosen v true) x false && relation x i) ≡ (some n (λ x. get_or chosen x false && relation x i) || relation v i)
unfolding some
some-set zero relation chosen v i h hl = absurd (not-suc-le-zero h)
some-set (suc n) relation chosen v i h hl =
    ⊎_elim
    (λ (b : v < n).
    let other : get_or (set chosen v true) n false ≡ get_or chosen n false = get_or-set_other chosen v n true false (omega arith) in
    ap₂ (λ (x y : Bool). x || y && relation n i) (some-set n relation chosen v i b hl) other
    ∙ swap (some n (λ x. get_or chosen x false && relation x i)) (relation v i) (get_or chosen n false && relation n i))
    (λ (e : v ≡ n).
    let same : some n (λ x. get_or (set chosen v true) x false && relation x i) ≡ some n (λ x. get_or chosen x false && relation x i) =
    some_same n (λ x. get_or (set chosen v true) x false && relation x i) (λ x. get_or chosen x false && relation x i)
    (λ x hx. ap (λ (y : Bool). y && relation x i) (get_or-set_other chosen v x true false (omega arith)))
    in
    let here : get_or (set chosen v true) n false ≡ true = subst (λ (j : ℕ). get_or (set chosen v true) j false ≡ true) e (get_or-set_same chosen v true false hl) in
    ap₂ (λ (x y : Bool). x || y && relation n i) same here
    ∙ absorb (some n (λ x. get_or chosen x false && relation x i)) (get_or chosen n false) (relation n i)
    ∙ ap (λ (j : ℕ). (some n (λ x. get_or chosen x false && relation x i) || get_or chosen n false && relation n i) || relation j i) (sym e))
    (below-or-last v n h)
  where
    swap : (a b c : Bool) → ((a || b) || c) ≡ ((a || c) || b)
    swap true b c = refl
    swap false true c = sym (or-true c)
    swap false false c = sym (or-false c)

    absorb : (a c b : Bool) → (a || b) ≡ ((a || c && b) || b)
    absorb true c b = refl
    absorb false true b = sym (or_self b)
    absorb false false b = refl

module _ (relation : ℕ → ℕ → Bool) (may : ℕ → Bool) (v : ℕ) (chosen blocked : List Bool) (h : v < places) (long : length chosen ≡ places)
    (knows : blocked ≡ blocked_by relation chosen) where
  -- what `blocked` says of v
  known : get_or blocked v false ≡ clashes relation chosen v
  known = ap (λ (l : List Bool). get_or l v false) knows ∙ get_or-tab places (clashes relation chosen) v false h

  skipped : (may v && not (clashes relation chosen v)) ≡ false → Considered relation may v chosen chosen blocked
  skipped e = record { chose = sym (ap (λ (b : Bool). cond b (set chosen v true) chosen) e); knows = knows }

  -- v may not
  pub not-allowed : may v ≡ false → Considered relation may v chosen chosen blocked
  not-allowed e = skipped (ap (λ (b : Bool). b && not (clashes relation chosen v)) e)

  -- v is blocked
  pub not_free : get_or blocked v false ≡ true → Considered relation may v chosen chosen blocked
  not_free e = skipped (ap (λ (b : Bool). may v && not b) (sym known ∙ e) ∙ and-false (may v))

  -- v is taken
  pub taken : may v ≡ true → get_or blocked v false ≡ false → (row blocked' : List Bool) → ((i : ℕ) → get_or row i false ≡ relation v i)
      → blocked' ≡ tab places (λ i. get_or blocked i false || get_or row i false) → Considered relation may v chosen (set chosen v true) blocked'
  taken m e row blocked' r q =
      let test : (may v && not (clashes relation chosen v)) ≡ true = ap₂ (λ (a b : Bool). a && not b) m (sym known ∙ e) in
      record {
        chose = sym (ap (λ (b : Bool). cond b (set chosen v true) chosen) test);
        knows =
            q
            ∙ tab-same places (λ i. get_or blocked i false || get_or row i false) (clashes relation (set chosen v true))
            (λ i hi.
            ap₂ ◌||◌ (ap (λ (l : List Bool). get_or l i false) knows ∙ get_or-tab places (clashes relation chosen) i false hi) (r i)
            ∙ sym (some-set places relation chosen v i h (omega arith)));
      }

module _ (relation : ℕ → ℕ → Bool) (may : ℕ → Bool) (before : List Bool) where
  pub joining-start : (blocked : List Bool) → blocked ≡ blocked_by relation before → Joining relation may before 0 before blocked
  unfolding for_each joined
  joining-start blocked e = record { chose = refl; knows = e }

  -- the turn of probe k + 2
  pub joining-next : (k : ℕ) (chosen blocked : List Bool) → Joining relation may before k chosen blocked → (chosen' blocked' : List Bool)
      → Considered relation may (k + 2) chosen chosen' blocked' → Joining relation may before (k + 1) chosen' blocked'
  unfolding joined
  joining-next k chosen blocked now chosen' blocked' turn =
      record {
        chose = turn.chose ∙ ap (joins relation may (k + 2)) now.chose ∙ sym (for_each-one k (λ j. joins relation may (j + 2)) before);
        knows = turn.knows;
      }

  -- the flag of a probe that has had its turn stays as it is
  pub flag-final : (k p : ℕ) → k < p → get_or (joined (k + 1) relation may before) (k + 2) false ≡ get_or (joined p relation may before) (k + 2) false
  unfolding joined for_each
  flag-final k zero h = absurd (not-suc-le-zero h)
  flag-final k (suc p) h =
      ⊎_elim
      (λ (l : k < p).
      flag-final k p l
      ∙ sym (other (may (p + 2) && not (clashes relation (joined p relation may before) (p + 2))) (p + 2) (joined p relation may before) (omega arith)))
      (λ (e : k ≡ p). let last : k + 1 ≡ suc p = omega arith in ap (λ (j : ℕ). get_or (joined j relation may before) (k + 2) false) last)
      (below-or-last k p h)
    where
      other : (b : Bool) (u : ℕ) (a : List Bool) → k + 2 ≢ u → get_or (cond b (set a u true) a) (k + 2) false ≡ get_or a (k + 2) false
      other true u a ne = get_or-set_other a u (k + 2) true false ne
      other false u a ne = refl
