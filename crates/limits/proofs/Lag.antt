-- The lag of a branch carries the rounds from a probe to its parent: a walk that goes one hop on has one more, less the parent's packets. By recursion
-- along the walk to the top. It is at most the levels below the top, and 0 where every probe has a packet.
use mathlib.Core.Path.{◌≡◌, refl, sym, ap, ◌∙◌}
use mathlib.Core.Bool.{Bool, true, false, cond}
use mathlib.Core.Logic.{◌≢◌, ⊎_elim}
use Prim.Native.Nat.{ℕ, zero, suc, ◌+◌, ◌-◌, ◌≤◌}
use native.Mathlib.Omega.{arith}
use Rattle.meaning.specs.Words.{most_probes}
use Rattle.meaning.specs.Yard.{is_probe, reaches, climb, branch_packets, heaviest_of, levels_below, longest_of, lag_on, branch_lag, slowest_of}
use Rattle.laws.proofs.Turns.{same-or-other}
use Rattle.laws.proofs.Walk.{not-both, probe-yes, probe-least, probe-most, probe-at, reaches_here, reaches-on, reaches-none, lag-here, lag-on}
use Rattle.laws.proofs.Levels.{most-holds, most-within}
use Rattle.limits.proofs.Branch.{Rooted, gone, reaches_same, level-up, falls}

module _ (parent : ℕ → ℕ) where
  -- a walk that comes to c comes one hop later to the parent of c
  further : (c left u : ℕ) → reaches parent c left u ≡ true → reaches parent (parent c) (suc left) u ≡ true
  further c zero u r =
      ⊎_elim (λ (e : u ≡ parent c). reaches_here parent (parent c) 1 u e)
      (λ (ne : u ≢ parent c). reaches-on parent (parent c) 0 u ne ∙ reaches_here parent (parent c) 0 (parent u) (ap parent (reaches-none parent c u r)))
      (same-or-other u (parent c))
  further c (suc left) u r =
      ⊎_elim (λ (e : u ≡ parent c). reaches_here parent (parent c) (suc (suc left)) u e)
      (λ (ne : u ≢ parent c).
      reaches-on parent (parent c) (suc left) u ne
      ∙ ⊎_elim (λ (e : u ≡ c). reaches_here parent (parent c) (suc left) (parent u) (ap parent e))
      (λ (on : u ≢ c). further c left (parent u) (sym (reaches-on parent c left u on) ∙ r))
      (same-or-other u c))
      (same-or-other u (parent c))

-- what is at most so much of each is at most so much of the most
pub most-over : (p : ℕ) (f : ℕ → ℕ) (bound : ℕ) → ((v : ℕ) → is_probe p v ≡ true → f v ≤ bound) → most_probes p f ≤ bound
most-over p f bound each = most-within p (λ k. f (k + 2)) bound (λ k h. each (k + 2) (probe-yes p (k + 2) (omega arith) (omega arith)))

-- and each is at most the most
pub over-most : (p : ℕ) (f : ℕ → ℕ) (v : ℕ) → is_probe p v ≡ true → f v ≤ most_probes p f
over-most p f v h =
    let at = probe-at p v h in
    omega (arith, most-holds p (λ k. f (k + 2)) (v - 2) at.0, ap f at.1)

module _ (p : ℕ) (parent packets : ℕ → ℕ) (rooted : Rooted p parent) where
  module _ (c : ℕ) (h : is_probe p c ≡ true) where
    low : 2 ≤ c
    low = probe-least p c h

    -- no walk that is still to come to c stands at the parent of c
    not_yet : (left u : ℕ) → reaches parent c left u ≡ true → u ≢ parent c
    not_yet left u r e =
        let up = rooted.inside c h in
        absurd
        (omega (
          arith,
          falls p parent rooted c left (parent c) low up.0 up.1 (sym (ap (reaches parent c left) e) ∙ r),
          level-up p parent rooted c h,
        ))

    -- one hop on: one more, less what the parent has
    one_on : (a b lag u : ℕ) → reaches parent c a u ≡ true → reaches parent (parent c) b u ≡ true
        → lag_on parent packets (parent c) b lag u ≡ lag_on parent packets c a lag u + 1 - packets (parent c)
    one_on a zero lag u r q = absurd (not_yet a u r (reaches-none parent (parent c) u q))
    one_on zero (suc b) lag u r q = at-child zero b lag u r (reaches-none parent c u r)
      where
        at-child : (a b lag u : ℕ) → reaches parent c a u ≡ true → u ≡ c
            → lag_on parent packets (parent c) (suc b) lag u ≡ lag_on parent packets c a lag u + 1 - packets (parent c)
        at-child a b lag u r e =
            lag-on parent packets (parent c) b lag u (not_yet a u r)
            ∙ lag-here parent packets (parent c) b (lag + 1 - packets (parent u)) (parent u) (ap parent e)
            ∙ omega (arith, ap (λ (v : ℕ). packets (parent v)) e, lag-here parent packets c a lag u e)
    one_on (suc a) (suc b) lag u r q =
        let not : u ≢ parent c = not_yet (suc a) u r in
        ⊎_elim
        (λ (e : u ≡ c).
        lag-on parent packets (parent c) b lag u not
        ∙ lag-here parent packets (parent c) b (lag + 1 - packets (parent u)) (parent u) (ap parent e)
        ∙ omega (arith, ap (λ (v : ℕ). packets (parent v)) e, lag-here parent packets c (suc a) lag u e))
        (λ (ne : u ≢ c).
        lag-on parent packets (parent c) b lag u not
        ∙ one_on a b (lag + 1 - packets (parent u)) (parent u) (sym (reaches-on parent c a u ne) ∙ r) (sym (reaches-on parent (parent c) b u not) ∙ q)
        ∙ ap (λ (l : ℕ). l + 1 - packets (parent c)) (sym (lag-on parent packets c a lag u ne)))
        (same-or-other u c)

    -- each walk to c is behind the branch of its parent by one, less what the parent has
    walk-lags : (u : ℕ) → is_probe p u ≡ true → reaches parent c p u ≡ true
        → lag_on parent packets c p 0 u + 1 ≤ branch_lag p parent packets (parent c) + packets (parent c)
    walk-lags u hu r =
        let up = rooted.inside c h in
        let comes : reaches parent (parent c) p u ≡ true =
        sym (reaches_same p parent rooted (parent c) p (suc p) u up.0 (omega arith) (rooted.arrives u hu)) ∙ further parent c p u r in
        let its : cond (reaches parent (parent c) p u) (lag_on parent packets (parent c) p 0 u) 0 ≡ lag_on parent packets (parent c) p 0 u =
        ap (λ (b : Bool). cond b (lag_on parent packets (parent c) p 0 u) 0) comes in
        omega (
          arith,
          over-most p (λ v. cond (reaches parent (parent c) p v) (lag_on parent packets (parent c) p 0 v) 0) u hu,
          its,
          one_on p p 0 u r comes,
        )

    pub lags : branch_lag p parent packets c + 1 ≤ branch_lag p parent packets (parent c) + packets (parent c)
    lags =
        let some = walk-lags c h (reaches_here parent c p c refl) in
        let each = most-over p (λ v. cond (reaches parent c p v) (lag_on parent packets c p 0 v) 0)
        (branch_lag p parent packets (parent c) + packets (parent c) - 1)
        (λ v hv. go v hv (reaches parent c p v) refl some) in
        omega (arith, each, some)
      where
        go : (v : ℕ) → is_probe p v ≡ true → (b : Bool) → reaches parent c p v ≡ b
            → lag_on parent packets c p 0 c + 1 ≤ branch_lag p parent packets (parent c) + packets (parent c)
            → cond b (lag_on parent packets c p 0 v) 0 ≤ branch_lag p parent packets (parent c) + packets (parent c) - 1
        go v hv true r some = omega (arith, walk-lags v hv r)
        go v hv false r some = omega arith

  -- a walk that comes to a top goes by probes alone
  module _ (top : ℕ) (low : 2 ≤ top) where
    on-probe : (left u : ℕ) → 1 ≤ u → u ≤ p + 1 → reaches parent top left u ≡ true → is_probe p u ≡ true
    on-probe left u from to r =
        ⊎_elim (λ (one : u ≡ 1). not-both r (ap (reaches parent top left) one ∙ gone p parent rooted top left low))
        (λ (more : u ≢ 1). probe-yes p u (omega arith) to)
        (same-or-other u 1)

    -- no more lag than hops, which are levels
    few-levels : (left lag u : ℕ) → 1 ≤ u → u ≤ p + 1 → reaches parent top left u ≡ true
        → lag_on parent packets top left lag u ≤ lag + (climb parent p u - climb parent p top)
    few-levels zero lag u from to r = omega (arith, lag-here parent packets top zero lag u (reaches-none parent top u r))
    few-levels (suc left) lag u from to r =
        ⊎_elim (λ (e : u ≡ top). omega (arith, lag-here parent packets top (suc left) lag u e))
        (λ (ne : u ≢ top).
        let probe = on-probe (suc left) u from to r in
        let up = rooted.inside u probe in
        let on = sym (reaches-on parent top left u ne) ∙ r in
        omega (
          arith,
          lag-on parent packets top left lag u ne,
          few-levels left (lag + 1 - packets (parent u)) (parent u) up.0 up.1 on,
          level-up p parent rooted u probe,
          falls p parent rooted top left (parent u) low up.0 up.1 on,
        ))
        (same-or-other u top)

    pub lag-levels : branch_lag p parent packets top ≤ levels_below p parent top
    lag-levels =
        most-over p (λ v. cond (reaches parent top p v) (lag_on parent packets top p 0 v) 0) (levels_below p parent top)
        (λ v hv. go v hv (reaches parent top p v) refl)
      where
        go : (v : ℕ) → is_probe p v ≡ true → (b : Bool) → reaches parent top p v ≡ b → cond b (lag_on parent packets top p 0 v) 0 ≤ levels_below p parent top
        go v hv true r =
            let its : cond (reaches parent top p v) (climb parent p v - climb parent p top) 0 ≡ climb parent p v - climb parent p top =
            ap (λ (b : Bool). cond b (climb parent p v - climb parent p top) 0) r in
            let least = probe-least p v hv in
            omega (
              arith,
              few-levels p 0 v (omega arith) (probe-most p v hv) r,
              over-most p (λ u. cond (reaches parent top p u) (climb parent p u - climb parent p top) 0) v hv,
              its,
            )
        go v hv false r = omega arith

    -- none where every probe has a packet
    module _ (some : (v : ℕ) → is_probe p v ≡ true → 1 ≤ packets v) where
      no-walk-lags : (left u : ℕ) → 1 ≤ u → u ≤ p + 1 → reaches parent top left u ≡ true → lag_on parent packets top left 0 u ≡ 0
      no-walk-lags zero u from to r = lag-here parent packets top zero 0 u (reaches-none parent top u r)
      no-walk-lags (suc left) u from to r =
          ⊎_elim (λ (e : u ≡ top). lag-here parent packets top (suc left) 0 u e)
          (λ (ne : u ≢ top).
          let probe = on-probe (suc left) u from to r in
          let up = rooted.inside u probe in
          let on = sym (reaches-on parent top left u ne) ∙ r in
          let none : 0 + 1 - packets (parent u) ≡ 0 = omega (arith, some (parent u) (on-probe left (parent u) up.0 up.1 on)) in
          lag-on parent packets top left 0 u ne
          ∙ ap (λ (l : ℕ). lag_on parent packets top left l (parent u)) none
          ∙ no-walk-lags left (parent u) up.0 up.1 on)
          (same-or-other u top)

      pub no-lag : branch_lag p parent packets top ≡ 0
      no-lag =
          let none : branch_lag p parent packets top ≤ 0 =
          most-over p (λ v. cond (reaches parent top p v) (lag_on parent packets top p 0 v) 0) 0
          (λ v hv. go v hv (reaches parent top p v) refl) in
          omega (arith, none)
        where
          go : (v : ℕ) → is_probe p v ≡ true → (b : Bool) → reaches parent top p v ≡ b → cond b (lag_on parent packets top p 0 v) 0 ≤ 0
          go v hv true r = let least = probe-least p v hv in omega (arith, no-walk-lags p v (omega arith) (probe-most p v hv) r)
          go v hv false r = omega arith

  -- a branch is no slower than the slowest
  pub in-slowest : (v : ℕ) → is_probe p v ≡ true → branch_packets p parent packets v + branch_lag p parent packets v ≤ slowest_of p parent packets
  in-slowest v h = over-most p (λ u. branch_packets p parent packets u + branch_lag p parent packets u) v h

  -- and the slowest, by the levels below each top, and where every probe has a packet
  pub slowest-longest : slowest_of p parent packets ≤ longest_of p parent packets
  slowest-longest =
      most-over p (λ v. branch_packets p parent packets v + branch_lag p parent packets v) _
      (λ v h. omega (arith, lag-levels v (probe-least p v h), over-most p (λ u. branch_packets p parent packets u + levels_below p parent u) v h))

  pub slowest-heaviest : ((v : ℕ) → is_probe p v ≡ true → 1 ≤ packets v) → slowest_of p parent packets ≤ heaviest_of p parent packets
  slowest-heaviest some =
      most-over p (λ v. branch_packets p parent packets v + branch_lag p parent packets v) _
      (λ v h. omega (arith, no-lag v (probe-least p v h) some, over-most p (branch_packets p parent packets) v h))
