-- Laws of walking from parent to parent: each goes by recursion on the hops that are left, and by whether the walk stands at its end.
-- That p hops are enough counts the nodes that have arrived: each hop brings one more, until nothing moves.
use mathlib.Core.Path.{◌≡◌, refl, sym, ap, ap₂, ◌∙◌, subst}
use mathlib.Core.Bool.{Bool, true, false, cond, ◌&&◌, and-false}
use mathlib.Core.Logic.{◌⊎◌, inl, inr, ⊎_elim}
use Prim.Native.Nat.{ℕ, zero, suc, ◌+◌, ◌-◌, ◌≤◌, ◌<◌}
use native.Mathlib.Nat.{not-suc-le-zero}
use native.Mathlib.Omega.{arith}
use lib.Dec.{eqb, leb}
use borrow.Author.Tests.{leb-true, le-leb, lt-leb, eqb-true, eqb-false, eq-eqb, ne_eqb}
use Rattle.meaning.specs.Words.{sum, count}
use Rattle.meaning.specs.Yard.{is_probe, reaches, climb, lag_on}
use Rattle.laws.proofs.Turns.{below-or-last, sum_same, sum-constant}

-- a test that is one and the other is absurd
pub not-both : {A : Type 0} {b : Bool} → b ≡ true → b ≡ false → A
not-both t f = absurd (subst (λ (b : Bool). cond b Unit ⊥) (sym t ∙ f) tt)

-- a node is the end of the walk, or it is not
at-end : {A : Type 0} (v top : ℕ) → (v ≡ top → A) → ((v ≡ top → ⊥) → A) → A
at-end {A} v top here on = go (eqb v top) refl
  where
    go : (b : Bool) → eqb v top ≡ b → A
    go true e = here (eqb-true v top e)
    go false e = on (eqb-false v top e)

-- the probes are 2 to p + 1
pub probe-yes : (p v : ℕ) → 2 ≤ v → v ≤ p + 1 → is_probe p v ≡ true
probe-yes p v low high = ap₂ ◌&&◌ (le-leb 2 v low) (le-leb v (p + 1) high)

pub probe-below : (p v : ℕ) → v < 2 → is_probe p v ≡ false
probe-below p v low = ap (λ (b : Bool). b && leb v (p + 1)) (lt-leb 2 v low)

pub probe-past : (p v : ℕ) → p + 1 < v → is_probe p v ≡ false
probe-past p v high = ap (λ (b : Bool). leb 2 v && b) (lt-leb v (p + 1) high) ∙ and-false (leb 2 v)

pub probe-least : (p v : ℕ) → is_probe p v ≡ true → 2 ≤ v
probe-least p v e = go (leb 2 v) refl
  where
    go : (b : Bool) → leb 2 v ≡ b → 2 ≤ v
    go true q = leb-true 2 v q
    go false q = not-both e (ap (λ (b : Bool). b && leb v (p + 1)) q)

pub probe-most : (p v : ℕ) → is_probe p v ≡ true → v ≤ p + 1
probe-most p v e = go (leb v (p + 1)) refl
  where
    go : (b : Bool) → leb v (p + 1) ≡ b → v ≤ p + 1
    go true q = leb-true v (p + 1) q
    go false q = not-both e (ap (λ (b : Bool). leb 2 v && b) q ∙ and-false (leb 2 v))

-- the number of a probe, from 0
pub probe-at : (p v : ℕ) → is_probe p v ≡ true → (v - 2 < p) × (v - 2 + 2 ≡ v)
probe-at p v e =
    let least = probe-least p v e in
    let most = probe-most p v e in
    (omega arith, omega arith)

module _ (parent : ℕ → ℕ) where
  -- at its end a walk has arrived, with no hop
  pub reaches_here : (top left v : ℕ) → v ≡ top → reaches parent top left v ≡ true
  unfolding reaches
  reaches_here top zero v e = eq-eqb v top e
  reaches_here top (suc left) v e = rw (eq-eqb v top e)

  pub climb-here : (left v : ℕ) → v ≡ 1 → climb parent left v ≡ 0
  unfolding climb
  climb-here zero v e = refl
  climb-here (suc left) v e = rw (eq-eqb v 1 e)

  -- elsewhere it goes on from the parent, with one hop less
  pub reaches-on : (top left v : ℕ) → (v ≡ top → ⊥) → reaches parent top (suc left) v ≡ reaches parent top left (parent v)
  unfolding reaches
  reaches-on top left v ne = rw (ne_eqb v top ne)

  pub climb-on : (left v : ℕ) → (v ≡ 1 → ⊥) → climb parent (suc left) v ≡ suc (climb parent left (parent v))
  unfolding climb
  climb-on left v ne = rw (ne_eqb v 1 ne)

  -- the lag of a walk: at its end it is what it is; elsewhere a hop adds one, less the packets of the node that it comes to
  pub lag-here : (packets : ℕ → ℕ) (top left lag v : ℕ) → v ≡ top → lag_on parent packets top left lag v ≡ lag
  unfolding lag_on
  lag-here packets top zero lag v e = refl
  lag-here packets top (suc left) lag v e = rw (eq-eqb v top e)

  pub lag-on : (packets : ℕ → ℕ) (top left lag v : ℕ) → (v ≡ top → ⊥)
      → lag_on parent packets top (suc left) lag v ≡ lag_on parent packets top left (lag + 1 - packets (parent v)) (parent v)
  unfolding lag_on
  lag-on packets top left lag v ne = rw (ne_eqb v top ne)

  -- with no hop left it has arrived only at its end
  pub reaches-none : (top v : ℕ) → reaches parent top 0 v ≡ true → v ≡ top
  unfolding reaches
  reaches-none top v r = eqb-true v top r

  pub climb-none : (v : ℕ) → climb parent 0 v ≡ 0
  unfolding climb
  climb-none v = refl

  -- what arrives arrives with more hops too
  pub reaches_more : (top a b v : ℕ) → a ≤ b → reaches parent top a v ≡ true → reaches parent top b v ≡ true
  reaches_more top zero b v h r = reaches_here top b v (reaches-none top v r)
  reaches_more top (suc a) zero v h r = absurd (not-suc-le-zero h)
  reaches_more top (suc a) (suc b) v h r =
      at-end v top (reaches_here top (suc b) v)
      (λ ne. reaches-on top b v ne ∙ reaches_more top a b (parent v) (omega arith) (sym (reaches-on top a v ne) ∙ r))

  -- and then takes the same hops
  pub climb-same : (a b v : ℕ) → a ≤ b → reaches parent 1 a v ≡ true → climb parent b v ≡ climb parent a v
  climb-same zero b v h r = climb-here b v (reaches-none 1 v r) ∙ sym (climb-none v)
  climb-same (suc a) zero v h r = absurd (not-suc-le-zero h)
  climb-same (suc a) (suc b) v h r =
      at-end v 1 (λ e. climb-here (suc b) v e ∙ sym (climb-here (suc a) v e))
      (λ ne.
      climb-on b v ne ∙ ap suc (climb-same a b (parent v) (omega arith) (sym (reaches-on 1 a v ne) ∙ r)) ∙ sym (climb-on a v ne))

  -- "Numbers of the yard": the level of a probe is one more than its parent's
  pub climb-up : (left v : ℕ) → reaches parent 1 left v ≡ true → (v ≡ 1 → ⊥)
      → (climb parent left v ≡ suc (climb parent left (parent v))) × (reaches parent 1 left (parent v) ≡ true)
  climb-up zero v r ne = absurd (ne (reaches-none 1 v r))
  climb-up (suc left) v r ne =
      let from-parent : reaches parent 1 left (parent v) ≡ true = sym (reaches-on 1 left v ne) ∙ r in (
        climb-on left v ne ∙ ap suc (sym (climb-same left (suc left) (parent v) (omega arith) from-parent)),
        reaches_more 1 left (suc left) (parent v) (omega arith) from-parent,
      )

  -- no more hops are walked than are left
  pub climb-most : (left v : ℕ) → climb parent left v ≤ left
  climb-most zero v = omega (arith, climb-none v)
  climb-most (suc left) v =
      at-end v 1 (λ e. omega (arith, climb-here (suc left) v e))
      (λ ne. omega (arith, climb-on left v ne, climb-most left (parent v)))

  -- a walk that does not arrive takes all of them
  pub climb-never : (left v : ℕ) → reaches parent 1 left v ≡ false → climb parent left v ≡ left
  climb-never zero v r = climb-none v
  climb-never (suc left) v r =
      at-end v 1 (λ e. not-both (reaches_here 1 (suc left) v e) r)
      (λ ne. climb-on left v ne ∙ ap suc (climb-never left (parent v) (sym (reaches-on 1 left v ne) ∙ r)))

count-suc : (n : ℕ) (test : ℕ → Bool) → count (suc n) test ≡ count n test + cond (test n) 1 0
unfolding sum
count-suc n test = refl

-- where all that pass one test pass another, more of them do, or the tests agree
pub more-or-same : (n : ℕ) (f g : ℕ → Bool) → ((k : ℕ) → k < n → f k ≡ true → g k ≡ true)
    → (count n f < count n g) ⊎ ((k : ℕ) → k < n → g k ≡ f k)
more-or-same zero f g keep = inr (λ k h. absurd (not-suc-le-zero h))
more-or-same (suc n) f g keep = go (f n) (g n) refl refl (more-or-same n f g (λ k h. keep k (omega arith)))
  where
    one : Bool → ℕ
    one b = cond b 1 0

    and_last : ((k : ℕ) → k < n → g k ≡ f k) → g n ≡ f n → (k : ℕ) → k < suc n → g k ≡ f k
    and_last same last k h =
        ⊎_elim (same k) (λ (e : k ≡ n). subst (λ (j : ℕ). g j ≡ f j) (sym e) last) (below-or-last k n h)

    go : (a b : Bool) → f n ≡ a → g n ≡ b → (count n f < count n g) ⊎ ((k : ℕ) → k < n → g k ≡ f k)
        → (count (suc n) f < count (suc n) g) ⊎ ((k : ℕ) → k < suc n → g k ≡ f k)
    go true false p q before = not-both (keep n (omega arith) p) q
    go true true p q (inl less) = inl (omega (arith, count-suc n f, count-suc n g, ap one p, ap one q))
    go false b p q (inl less) = inl (omega (arith, count-suc n f, count-suc n g, ap one p))
    go false true p q (inr same) =
        inl (omega (arith, count-suc n f, count-suc n g, ap one p, ap one q, sum_same n (λ k. one (g k)) (λ k. one (f k)) (λ k h. ap one (same k h))))
    go true true p q (inr same) = inr (and_last same (q ∙ sym p))
    go false false p q (inr same) = inr (and_last same (q ∙ sym p))

-- how many of the nodes 1 to p + 1 arrive in at most k hops
arrived : (ℕ → ℕ) → ℕ → ℕ → ℕ
arrived parent p k = count (p + 1) (λ j. reaches parent 1 k (j + 1))

-- every node that ever arrives does so in at most k hops
abbrev Settled : (ℕ → ℕ) → ℕ → ℕ → Type 0
Settled parent p k = (m u : ℕ) → 1 ≤ u → u ≤ p + 1 → reaches parent 1 m u ≡ true → reaches parent 1 k u ≡ true

module _ (parent : ℕ → ℕ) (p : ℕ) (inside : (v : ℕ) → is_probe p v ≡ true → (1 ≤ parent v) × (parent v ≤ p + 1)) where
  -- where one hop more brings no node, no number of hops does
  settles : (k : ℕ) → ((j : ℕ) → j < p + 1 → reaches parent 1 (suc k) (j + 1) ≡ reaches parent 1 k (j + 1)) → Settled parent p k
  settles k stop zero u low high r = reaches_here parent 1 k u (reaches-none parent 1 u r)
  settles k stop (suc m) u low high r =
      at-end u 1 (reaches_here parent 1 k u)
      (λ ne.
      let up = inside u (probe-yes p u (omega arith) high) in
      let same = stop (u - 1) (omega arith) in
      let back : u - 1 + 1 ≡ u = omega arith in
      sym (subst (λ (w : ℕ). reaches parent 1 (suc k) w ≡ reaches parent 1 k w) back same)
      ∙ reaches-on parent 1 k u ne
      ∙ settles k stop m (parent u) up.0 up.1 (sym (reaches-on parent 1 m u ne) ∙ r))

  settled_on : (k : ℕ) → Settled parent p k → Settled parent p (suc k)
  settled_on k settled m u low high r = reaches_more parent 1 k (suc k) u (omega arith) (settled m u low high r)

  -- each hop brings one node more, until nothing moves
  grows : (k : ℕ) → (k < arrived parent p k) ⊎ Settled parent p k
  unfolding arrived
  grows zero =
      ⊎_elim (λ less. inl (omega arith)) (λ same. not-both (reaches_here parent 1 0 1 refl) (same 0 (omega arith)))
      (more-or-same (p + 1) (λ _. false) (λ j. reaches parent 1 0 (j + 1)) (λ j h e. not-both e refl))
  grows (suc k) =
      ⊎_elim
      (λ (many : k < arrived parent p k).
      ⊎_elim (λ less. inl (omega arith)) (λ same. inr (settled_on k (settles k same)))
      (more-or-same (p + 1) (λ j. reaches parent 1 k (j + 1)) (λ j. reaches parent 1 (suc k) (j + 1))
      (λ j h. reaches_more parent 1 k (suc k) (j + 1) (omega arith))))
      (λ (settled : Settled parent p k). inr (settled_on k settled))
      (grows k)

  -- after p hops nothing moves: there are p + 1 nodes, and the gateway needs no hop
  settled : Settled parent p p
  unfolding arrived
  settled m u low high r =
      ⊎_elim
      (λ (many : p < arrived parent p p).
      ⊎_elim (λ less. absurd (omega (arith, sum-constant (p + 1) 1)))
      (λ same. let back : u - 1 + 1 ≡ u = omega arith in
      sym (subst (λ (w : ℕ). true ≡ reaches parent 1 p w) back (same (u - 1) (omega arith))))
      (more-or-same (p + 1) (λ j. reaches parent 1 p (j + 1)) (λ _. true) (λ j h e. refl)))
      (λ (done : Settled parent p p). done m u low high r)
      (grows p)

  -- "Numbers returned", 6: a walk that has not arrived after p hops never does
  pub never : (v : ℕ) → is_probe p v ≡ true → reaches parent 1 p v ≡ false → (k : ℕ) → reaches parent 1 k v ≡ false
  never v probe far k = go (reaches parent 1 k v) refl
    where
      go : (b : Bool) → reaches parent 1 k v ≡ b → reaches parent 1 k v ≡ false
      go false q = q
      go true q =
          let low = probe-least p v probe in
          not-both (settled k v (omega arith) (probe-most p v probe) q) far
