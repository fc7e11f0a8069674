-- The packets of a branch are its top's own and those of the branches below it. Each probe of the branch is its top, or below exactly one child of the
-- top: by recursion along its walk to the gateway, on which levels fall.
use mathlib.Core.Path.{◌≡◌, refl, sym, ap, ap₂, ◌∙◌, subst}
use mathlib.Core.Bool.{Bool, true, false, cond, ◌||◌}
use mathlib.Core.Logic.{◌≢◌, ⊎_elim}
use Prim.Native.Nat.{ℕ, zero, suc, ◌+◌, ◌≤◌, ◌<◌}
use native.Mathlib.Nat.{not-suc-le-zero}
use native.Mathlib.Omega.{arith}
use lib.Dec.{eqb}
use borrow.Author.Tests.{eq-eqb, ne_eqb, eqb-true}
use Rattle.meaning.specs.Words.{sum, sum_probes}
use Rattle.meaning.specs.Yard.{is_probe, reaches, climb, branch_packets}
use Rattle.laws.proofs.Turns.{sum_same, same-or-other}
use Rattle.laws.proofs.Walk.{not-both, probe-yes, probe-least, reaches_here, reaches-on, reaches-none, climb-up, climb-most}
use Rattle.laws.proofs.Slots.{true-or-false}
use Rattle.limits.specs.Sent.{inflow}
use Rattle.limits.proofs.Sums.{zero-either, sum-zero, sum-add, sum-swap, sum-cond, probes-only, together-itself}
use Rattle.limits.proofs.Sending.{inflow-same}

-- a yard: every probe has a parent among the nodes and arrives at the gateway, from which no walk goes on
pub record Rooted (p : ℕ) (parent : ℕ → ℕ) : Type 0 where
  pub inside : (v : ℕ) → is_probe p v ≡ true → (1 ≤ parent v) × (parent v ≤ p + 1)
  pub arrives : (v : ℕ) → is_probe p v ≡ true → reaches parent 1 p v ≡ true
  pub gateway : parent 1 ≡ 0
  pub nowhere : parent 0 ≡ 0

module _ (p : ℕ) (parent : ℕ → ℕ) (rooted : Rooted p parent) where
  -- no walk comes back from behind the gateway
  lost : (top left : ℕ) → 1 ≤ top → reaches parent top left 0 ≡ false
  unfolding reaches
  lost top zero h = ne_eqb 0 top (λ e. omega arith)
  lost top (suc left) h =
      ap₂ ◌||◌ (ne_eqb 0 top (λ e. omega arith)) (ap (reaches parent top left) rooted.nowhere ∙ lost top left h)

  pub gone : (top left : ℕ) → 2 ≤ top → reaches parent top left 1 ≡ false
  unfolding reaches
  gone top zero h = ne_eqb 1 top (λ e. omega arith)
  gone top (suc left) h =
      ap₂ ◌||◌ (ne_eqb 1 top (λ e. omega arith)) (ap (reaches parent top left) rooted.gateway ∙ lost top left (omega arith))

  -- a node is the top of a branch, or the gateway, or has a walk that goes on
  passes : (top v left : ℕ) → 1 ≤ top → v ≡ 1 → v ≢ top → reaches parent top left v ≡ false
  passes top v left ht e ne =
      ⊎_elim (λ (same : top ≡ 1). absurd (ne (e ∙ sym same)))
      (λ (not : top ≢ 1). ap (reaches parent top left) e ∙ gone top left (omega arith))
      (same-or-other top 1)

  -- more hops than lead to the gateway reach nothing more
  pub reaches_same : (top a b v : ℕ) → 1 ≤ top → a ≤ b → reaches parent 1 a v ≡ true → reaches parent top b v ≡ reaches parent top a v
  reaches_same top zero b v ht h r =
      ⊎_elim (λ (e : v ≡ top). reaches_here parent top b v e ∙ sym (reaches_here parent top 0 v e))
      (λ (ne : v ≢ top).
      passes top v b ht (reaches-none parent 1 v r) ne ∙ sym (passes top v 0 ht (reaches-none parent 1 v r) ne))
      (same-or-other v top)
  reaches_same top (suc a) zero v ht h r = absurd (not-suc-le-zero h)
  reaches_same top (suc a) (suc b) v ht h r =
      ⊎_elim (λ (e : v ≡ top). reaches_here parent top (suc b) v e ∙ sym (reaches_here parent top (suc a) v e))
      (λ (ne : v ≢ top).
      ⊎_elim (λ (one : v ≡ 1). passes top v (suc b) ht one ne ∙ sym (passes top v (suc a) ht one ne))
      (λ (more : v ≢ 1).
      reaches-on parent top b v ne ∙ reaches_same top a b (parent v) ht (omega arith) (sym (reaches-on parent 1 a v more) ∙ r)
      ∙ sym (reaches-on parent top a v ne))
      (same-or-other v 1))
      (same-or-other v top)

  -- v is in the branch of top
  abbrev below : ℕ → ℕ → Bool
  below top v = reaches parent top p v

  -- a probe is the top of a branch, or its parent is in it
  below_on : (top v : ℕ) → 1 ≤ top → is_probe p v ≡ true → below top v ≡ (eqb v top || below top (parent v))
  unfolding reaches
  below_on top v ht h = sym (reaches_same top p (suc p) v ht (omega arith) (rooted.arrives v h))

  abbrev level : ℕ → ℕ
  level v = climb parent p v

  pub level-up : (v : ℕ) → is_probe p v ≡ true → level v ≡ suc (level (parent v))
  level-up v h = let least = probe-least p v h in (climb-up parent p v (rooted.arrives v h) (λ e. omega arith)).0

  -- on a walk levels fall
  pub falls : (top left v : ℕ) → 2 ≤ top → 1 ≤ v → v ≤ p + 1 → reaches parent top left v ≡ true → level top ≤ level v
  falls top zero v ht from to r = omega (arith, ap level (reaches-none parent top v r))
  falls top (suc left) v ht from to r =
      ⊎_elim (λ (e : v ≡ top). omega (arith, ap level e))
      (λ (ne : v ≢ top).
      ⊎_elim (λ (one : v ≡ 1). not-both r (ap (reaches parent top (suc left)) one ∙ gone top (suc left) ht))
      (λ (more : v ≢ 1).
      let probe = probe-yes p v (omega arith) to in
      let up = rooted.inside v probe in
      omega (arith, level-up v probe, falls top left (parent v) ht up.0 up.1 (sym (reaches-on parent top left v ne) ∙ r)))
      (same-or-other v 1))
      (same-or-other v top)

  -- what lies one level further out is not reached
  not-below : (c v : ℕ) → is_probe p c ≡ true → 1 ≤ v → v ≤ p + 1 → parent c ≡ v → below c v ≡ false
  not-below c v hc from to e =
      ⊎_elim
      (λ (r : below c v ≡ true).
      absurd (omega (arith, falls c p v (probe-least p c hc) from to r, level-up c hc, ap level e)))
      (λ (r : below c v ≡ false). r)
      (true-or-false (below c v))

  module _ (x top : ℕ) (ht : 1 ≤ top) where
    -- x for each child of top in whose branch v is
    through : ℕ → ℕ
    through v = sum_probes p (λ c. cond (eqb (parent c) top) (cond (below c v) x 0) 0)

    none-through : (v : ℕ) → ((c : ℕ) → is_probe p c ≡ true → parent c ≡ top → below c v ≡ false) → through v ≡ 0
    unfolding through
    none-through v none =
        sum-zero p (λ k. cond (eqb (parent (k + 2)) top) (cond (below (k + 2) v) x 0) 0)
        (λ k hk. go (k + 2) (probe-yes p (k + 2) (omega arith) (omega arith)) (eqb (parent (k + 2)) top) refl)
      where
        go : (c : ℕ) → is_probe p c ≡ true → (b : Bool) → eqb (parent c) top ≡ b → cond b (cond (below c v) x 0) 0 ≡ 0
        go c hc false e = refl
        go c hc true e = ap (λ (t : Bool). cond t x 0) (none c hc (eqb-true (parent c) top e))

    -- one hop up: v itself is a child of top, or its parent is in the same branches
    through-on : (v : ℕ) → is_probe p v ≡ true → through v ≡ cond (eqb (parent v) top) x 0 + through (parent v)
    unfolding through
    through-on v hv =
        sum_same p (λ k. cond (eqb (parent (k + 2)) top) (cond (below (k + 2) v) x 0) 0)
        (λ k. cond (eqb (parent (k + 2)) top) (cond (eqb v (k + 2)) x 0) 0 + cond (eqb (parent (k + 2)) top) (cond (below (k + 2) (parent v)) x 0) 0)
        (λ k hk.
        let c : ℕ = k + 2 in
        split (eqb (parent c) top) (below c v) (eqb v c) (below c (parent v)) (below_on c v (omega arith) hv)
        (λ e. let same = eqb-true v c e in
        not-below c (parent v) (subst (λ (u : ℕ). is_probe p u ≡ true) same hv) (rooted.inside v hv).0 (rooted.inside v hv).1 (ap parent (sym same))))
        ∙ sum-add p (λ k. cond (eqb (parent (k + 2)) top) (cond (eqb v (k + 2)) x 0) 0)
        (λ k. cond (eqb (parent (k + 2)) top) (cond (below (k + 2) (parent v)) x 0) 0)
        ∙ ap (λ (n : ℕ). n + sum_probes p (λ c. cond (eqb (parent c) top) (cond (below c (parent v)) x 0) 0)) itself
      where
        split : (a b c d : Bool) → b ≡ (c || d) → (c ≡ true → d ≡ false) → cond a (cond b x 0) 0 ≡ cond a (cond c x 0) 0 + cond a (cond d x 0) 0
        split false b c d e one = refl
        split true b true d e one =
            omega (arith, ap (λ (t : Bool). cond t x 0) e, ap (λ (t : Bool). cond t x 0) (one refl))
        split true b false d e one = omega (arith, ap (λ (t : Bool). cond t x 0) e)

        itself : sum_probes p (λ c. cond (eqb (parent c) top) (cond (eqb v c) x 0) 0) ≡ cond (eqb (parent v) top) x 0
        itself =
            probes-only p (λ c. cond (eqb (parent c) top) (cond (eqb v c) x 0) 0) v hv
            (λ u other. ap (λ (t : Bool). cond (eqb (parent u) top) (cond t x 0) 0) (ne_eqb v u (λ e. other (sym e))) ∙ zero-either (eqb (parent u) top))
            ∙ ap (λ (t : Bool). cond (eqb (parent v) top) (cond t x 0) 0) (eq-eqb v v refl)

    abbrev Parts : ℕ → Type 0
    Parts v = through v + cond (eqb v top) x 0 ≡ cond (below top v) x 0

    at_top : (v : ℕ) → through v ≡ 0 → v ≡ top → Parts v
    at_top v none e =
        let here : cond (eqb v top) x 0 ≡ x = ap (λ (b : Bool). cond b x 0) (eq-eqb v top e) in
        let there : cond (below top v) x 0 ≡ x = ap (λ (b : Bool). cond b x 0) (reaches_here parent top p v e) in
        omega (arith, none, here, there)

    at-gateway : (v : ℕ) → v ≡ 1 → Parts v
    at-gateway v one =
        let none : through v ≡ 0 = none-through v (λ c hc e. ap (reaches parent c p) one ∙ gone c p (probe-least p c hc)) in
        ⊎_elim (λ (e : v ≡ top). at_top v none e)
        (λ (ne : v ≢ top).
        let here : cond (eqb v top) x 0 ≡ 0 = ap (λ (b : Bool). cond b x 0) (ne_eqb v top ne) in
        let there : cond (below top v) x 0 ≡ 0 = ap (λ (b : Bool). cond b x 0) (passes top v p ht one ne) in
        omega (arith, none, here, there))
        (same-or-other v top)

    -- each node of the branch is its top, or in the branch of exactly one child
    parts : (left v : ℕ) → 1 ≤ v → v ≤ p + 1 → reaches parent 1 left v ≡ true → Parts v
    parts zero v from to r = at-gateway v (reaches-none parent 1 v r)
    parts (suc left) v from to r =
        ⊎_elim (λ (one : v ≡ 1). at-gateway v one)
        (λ (more : v ≢ 1).
        let probe = probe-yes p v (omega arith) to in
        let up = rooted.inside v probe in
        ⊎_elim (λ (e : v ≡ top). at_top v (none-through v (λ c hc q. not-below c v hc from to (q ∙ sym e))) e)
        (λ (ne : v ≢ top).
        let here : cond (eqb v top) x 0 ≡ 0 = ap (λ (b : Bool). cond b x 0) (ne_eqb v top ne) in
        let there : cond (below top v) x 0 ≡ cond (below top (parent v)) x 0 =
        ap (λ (b : Bool). cond b x 0) (below_on top v ht probe ∙ ap (λ (b : Bool). b || below top (parent v)) (ne_eqb v top ne)) in
        omega (arith, through-on v probe, parts left (parent v) up.0 up.1 (sym (reaches-on parent 1 left v more) ∙ r), here, there))
        (same-or-other v top))
        (same-or-other v 1)

  -- the packets of a branch, of any kind of packets: its top's own, and those of the branches of its children
  pub branch-parts : (packets : ℕ → ℕ) (top : ℕ) → 1 ≤ top
      → branch_packets p parent packets top ≡ sum_probes p (λ v. cond (eqb v top) (packets v) 0) + inflow p parent (branch_packets p parent packets) top
  unfolding through inflow
  branch-parts packets top ht =
      sum_same p (λ k. cond (below top (k + 2)) (packets (k + 2)) 0)
      (λ k. cond (eqb (k + 2) top) (packets (k + 2)) 0 + sum p (each (k + 2)))
      (λ k hk.
      let probe = probe-yes p (k + 2) (omega arith) (omega arith) in
      omega (arith, parts (packets (k + 2)) top ht p (k + 2) (omega arith) (omega arith) (rooted.arrives (k + 2) probe)))
      ∙ sum-add p (λ k. cond (eqb (k + 2) top) (packets (k + 2)) 0) (λ k. sum p (each (k + 2)))
      ∙ ap (λ (n : ℕ). sum_probes p (λ v. cond (eqb v top) (packets v) 0) + n)
      (sum-swap p p (λ i. each (i + 2))
      ∙ sum_same p (λ j. sum p (λ i. each (i + 2) j)) (λ j. cond (eqb (parent (j + 2)) top) (branch_packets p parent packets (j + 2)) 0)
      (λ j _. sum-cond p (eqb (parent (j + 2)) top) (λ i. cond (below (j + 2) (i + 2)) (packets (i + 2)) 0)))
    where
      each : ℕ → ℕ → ℕ
      each v j = cond (eqb (parent (j + 2)) top) (cond (below (j + 2) v) (packets v) 0) 0

  pub branch-own : (packets : ℕ → ℕ) (top : ℕ) → is_probe p top ≡ true
      → branch_packets p parent packets top ≡ packets top + inflow p parent (branch_packets p parent packets) top
  branch-own packets top h =
      let least = probe-least p top h in
      omega (arith, together-itself p packets top h, branch-parts packets top (omega arith))

  -- what is everywhere one's own and what the children have is the packets of the branches: by levels, from the deepest up
  module _ (packets many : ℕ → ℕ) (parts : (v : ℕ) → is_probe p v ≡ true → many v ≡ packets v + inflow p parent many v) where
    from-deepest : (n v : ℕ) → is_probe p v ≡ true → p < level v + n → many v ≡ branch_packets p parent packets v
    from-deepest zero v h deep = absurd (omega (arith, climb-most parent p v))
    from-deepest (suc n) v h deep =
        omega (
          arith,
          parts v h,
          branch-own packets v h,
          inflow-same p parent many (branch_packets p parent packets) v
              (λ k hk e.
              let probe = probe-yes p (k + 2) (omega arith) (omega arith) in
              from-deepest n (k + 2) probe (omega (arith, level-up (k + 2) probe, ap level (eqb-true (parent (k + 2)) v e)))),
        )

    pub only-branch : (v : ℕ) → is_probe p v ≡ true → many v ≡ branch_packets p parent packets v
    only-branch v h = from-deepest (suc p) v h (omega arith)

  -- all packets, by the branches whose tops are next to the gateway
  pub branch-all : (packets : ℕ → ℕ) → sum_probes p packets ≡ inflow p parent (branch_packets p parent packets) 1
  branch-all packets =
      let none : sum_probes p (λ v. cond (eqb v 1) (packets v) 0) ≡ 0 =
      sum-zero p (λ k. cond (eqb (k + 2) 1) (packets (k + 2)) 0) (λ k hk. ap (λ (b : Bool). cond b (packets (k + 2)) 0) (ne_eqb (k + 2) 1 (λ e. omega arith))) in
      let whole : branch_packets p parent packets 1 ≡ sum_probes p packets =
      sum_same p (λ k. cond (below 1 (k + 2)) (packets (k + 2)) 0) (λ k. packets (k + 2))
      (λ k hk. ap (λ (b : Bool). cond b (packets (k + 2)) 0) (rooted.arrives (k + 2) (probe-yes p (k + 2) (omega arith) (omega arith)))) in
      omega (arith, none, whole, branch-parts packets 1 (omega arith))
