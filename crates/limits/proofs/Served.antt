-- Rounds that serve every holder bring the packets home in time. By rounds: a probe that is behind has a child that has sent enough, or children that
-- have sent all, and so holds a packet. The lag is what relays cost; it is 0 where every probe has a packet of its own.
use mathlib.Core.Path.{◌≡◌, sym, ap, subst}
use mathlib.Core.Bool.{Bool, true, false, cond, ◌&&◌}
use mathlib.Core.Logic.{◌⊎◌, inl, inr, ⊎_elim}
use Prim.Native.Nat.{ℕ, zero, suc, ◌+◌, ◌-◌, ◌≤◌, ◌<◌, min}
use native.Mathlib.Omega.{arith}
use lib.Dec.{eqb, ltb}
use borrow.Author.Tests.{eqb-true, ltb-true, ltb-false}
use Rattle.meaning.specs.Words.{some}
use Rattle.meaning.specs.Yard.{is_probe}
use Rattle.laws.proofs.Turns.{in_sum, some-where, some-none}
use Rattle.laws.proofs.Walk.{probe-yes}
use Rattle.laws.proofs.Slots.{and_left, and_right, true-or-false}
use Rattle.limits.specs.Sent.{inflow}
use Rattle.limits.proofs.Sums.{together-least}

-- more from each child is more from all
pub inflow-least : (p : ℕ) (parent x y : ℕ → ℕ) (v : ℕ) → ((k : ℕ) → k < p → eqb (parent (k + 2)) v ≡ true → x (k + 2) ≤ y (k + 2)) → inflow p parent x v ≤ inflow p parent y v
unfolding inflow
inflow-least p parent x y v = together-least p (λ c. eqb (parent c) v) x y

-- no child has more than all
pub inflow-part : (p : ℕ) (parent x : ℕ → ℕ) (v k : ℕ) → k < p → eqb (parent (k + 2)) v ≡ true → x (k + 2) ≤ inflow p parent x v
unfolding inflow
inflow-part p parent x v k h e =
    let here : cond (eqb (parent (k + 2)) v) (x (k + 2)) 0 ≡ x (k + 2) = ap (λ (b : Bool). cond b (x (k + 2)) 0) e in
    omega (arith, here, in_sum p (λ j. cond (eqb (parent (j + 2)) v) (x (j + 2)) 0) k h)

-- the arithmetic of one more round: what v holds or has sent is enough, by what its children sent
one_more : (all r lag now next there : ℕ) → min (now + 1) there ≤ next → min all (r - lag) ≤ now → (suc r ≤ there + lag) ⊎ (all ≤ there)
    → min all (suc r - lag) ≤ next
one_more all r lag now next there serves so (inl enough) = omega arith
one_more all r lag now next there serves so (inr enough) = omega arith

not-all : (all r lag now : ℕ) → min all (r - lag) ≤ now → now < all → r ≤ now + lag
not-all all r lag now so short = omega arith

-- `own` is what each has to begin with, `all` that with all below it, `lag` how many rounds it may be behind, `done r` what it has sent after r rounds
module _ (p : ℕ) (parent own all lag : ℕ → ℕ) (done : ℕ → ℕ → ℕ)
    (whole : (v : ℕ) → is_probe p v ≡ true → all v ≤ own v + inflow p parent all v)
    (lags : (c : ℕ) → is_probe p c ≡ true → is_probe p (parent c) ≡ true → lag c + 1 ≤ lag (parent c) + own (parent c))
    (serves : (r v : ℕ) → is_probe p v ≡ true → min (done r v + 1) (own v + inflow p parent (done r) v) ≤ done (suc r) v) where
  -- a child of v that has not sent all, or none
  behind : ℕ → ℕ → ℕ → Bool
  behind r v k = eqb (parent (k + 2)) v && ltb (done r (k + 2)) (all (k + 2))

  pub served : (r v : ℕ) → is_probe p v ≡ true → min (all v) (r - lag v) ≤ done r v
  unfolding behind
  served zero v h = omega arith
  served (suc r) v h =
      ⊎_elim
      (λ (e : some p (behind r v) ≡ true).
      let found = some-where p (behind r v) e in
      let k : ℕ = found.0 in
      let below = and_left (eqb (parent (k + 2)) v) (ltb (done r (k + 2)) (all (k + 2))) found.2 in
      let short = ltb-true (done r (k + 2)) (all (k + 2)) (and_right (eqb (parent (k + 2)) v) (ltb (done r (k + 2)) (all (k + 2))) found.2) in
      let up : parent (k + 2) ≡ v = eqb-true (parent (k + 2)) v below in
      let probe : is_probe p (k + 2) ≡ true = probe-yes p (k + 2) (omega arith) (omega (arith, found.1)) in
      let late : lag (k + 2) + 1 ≤ lag v + own v =
      subst (λ (u : ℕ). lag (k + 2) + 1 ≤ lag u + own u) up (lags (k + 2) probe (subst (λ (u : ℕ). is_probe p u ≡ true) (sym up) h)) in
      let came = inflow-part p parent (done r) v k found.1 below in
      let sent = not-all (all (k + 2)) r (lag (k + 2)) (done r (k + 2)) (served r (k + 2) probe) short in
      one_more (all v) r (lag v) (done r v) (done (suc r) v) (own v + inflow p parent (done r) v) (serves r v h) (served r v h) (inl (omega (arith, late, came, sent))))
      (λ (e : some p (behind r v) ≡ false).
      let came = inflow-least p parent all (done r) v
      (λ k hk below.
      ltb-false (done r (k + 2)) (all (k + 2))
      (subst (λ (b : Bool). (b && ltb (done r (k + 2)) (all (k + 2))) ≡ false) below (some-none p (behind r v) e k hk))) in
      let enough : all v ≤ own v + inflow p parent (done r) v = omega (arith, whole v h, came) in
      one_more (all v) r (lag v) (done r v) (done (suc r) v) (own v + inflow p parent (done r) v) (serves r v h) (served r v h) (inr enough))
      (true-or-false (some p (behind r v)))

-- `other r` is what each has sent after r steps, in each of which it sends at most one packet, and only one that it holds
module _ (p : ℕ) (parent own : ℕ → ℕ) (done other : ℕ → ℕ → ℕ)
    (serves : (r v : ℕ) → is_probe p v ≡ true → min (done r v + 1) (own v + inflow p parent (done r) v) ≤ done (suc r) v)
    (none_yet : (v : ℕ) → other 0 v ≡ 0)
    (steps : (r v : ℕ) → is_probe p v ≡ true → (other (suc r) v ≤ other r v + 1) × (other (suc r) v ≤ own v + inflow p parent (other r) v)) where
  -- as many rounds that serve every holder send no less
  pub never-ahead : (r v : ℕ) → is_probe p v ≡ true → other r v ≤ done r v
  never-ahead zero v h = omega (arith, none_yet v)
  never-ahead (suc r) v h =
      let step = steps r v h in
      let came = inflow-least p parent (other r) (done r) v (λ k hk _. never-ahead r (k + 2) (probe-yes p (k + 2) (omega arith) (omega arith))) in
      omega (arith, step.0, step.1, came, never-ahead r v h, serves r v h)
