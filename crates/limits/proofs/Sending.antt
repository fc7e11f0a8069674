-- Conservation: what a node holds after a slot, and what it sent in it, is what it held before and what its children sent. By weighing the packets
-- of that node alone.
use mathlib.Core.Path.{◌≡◌, refl, sym, ap, ap₂, ◌∙◌}
use mathlib.Core.Bool.{Bool, true, cond}
use mathlib.Core.List.{List, [], ◌∷◌, ◌++◌}
use mathlib.Core.Logic.{◌⊎◌, inl, inr, ◌≢◌, ⊎_elim}
use Prim.Native.Nat.{ℕ, zero, suc, ◌+◌, ◌*◌, ◌≤◌, ◌<◌}
use native.Mathlib.Nat.{not-suc-le-zero}
use native.Mathlib.Omega.{arith}
use lib.Dec.{eqb}
use lib.ListN.{length, get_or}
use borrow.Author.Tests.{eq-eqb, ne_eqb}
use Rattle.meaning.specs.Words.{sum, sum_probes, places, probes_that}
use Rattle.meaning.specs.Yard.{is_probe}
use Rattle.meaning.specs.Rounds.{moved}
use Rattle.laws.proofs.Turns.{below-or-last, sum_same, same-or-other}
use Rattle.laws.proofs.Walk.{probe-yes}
use Rattle.laws.proofs.Moving.{Rising, Each, Sender, weigh, weigh_all, weigh-moved}
use Rattle.limits.specs.Sent.{inflow, sent_in, sent}
use Rattle.limits.proofs.Sums.{sum-add, sum-only, sum-zero, sum-swap, probes-only, together, together-add, together-none, together-same, together-one}

pub inflow-add : (p : ℕ) (parent x y : ℕ → ℕ) (v : ℕ) → inflow p parent (λ c. x c + y c) v ≡ inflow p parent x v + inflow p parent y v
unfolding inflow
inflow-add p parent x y v = together-add p (λ c. eqb (parent c) v) x y

pub inflow-same : (p : ℕ) (parent x y : ℕ → ℕ) (v : ℕ) → ((k : ℕ) → k < p → eqb (parent (k + 2)) v ≡ true → x (k + 2) ≡ y (k + 2))
    → inflow p parent x v ≡ inflow p parent y v
unfolding inflow
inflow-same p parent x y v = together-same p (λ c. eqb (parent c) v) x y

pub inflow-none : (p : ℕ) (parent : ℕ → ℕ) (v : ℕ) → inflow p parent (λ _. 0) v ≡ 0
unfolding inflow
inflow-none p parent v = together-none p (λ c. eqb (parent c) v)

-- what comes to the probes and to the gateway is all that is sent
pub inflow-all : (p : ℕ) (parent x : ℕ → ℕ) → ((v : ℕ) → is_probe p v ≡ true → (1 ≤ parent v) × (parent v ≤ p + 1))
    → sum_probes p (inflow p parent x) + inflow p parent x 1 ≡ sum_probes p x
unfolding inflow
inflow-all p parent x inside =
    ap (λ (n : ℕ). n + sum p (to 1)) (sum-swap p p (λ i. to (i + 2)))
    ∙ sym (sum-add p (λ j. sum p (λ i. to (i + 2) j)) (to 1))
    ∙ sum_same p (λ j. sum p (λ i. to (i + 2) j) + to 1 j) (λ j. x (j + 2))
    (λ j hj. go (j + 2) (probe-yes p (j + 2) (omega arith) (omega arith)) (same-or-other (parent (j + 2)) 1))
  where
    to : ℕ → ℕ → ℕ
    to v j = cond (eqb (parent (j + 2)) v) (x (j + 2)) 0

    go : (c : ℕ) → is_probe p c ≡ true → (parent c ≡ 1) ⊎ (parent c ≢ 1) → sum_probes p (λ v. cond (eqb (parent c) v) (x c) 0) + cond (eqb (parent c) 1) (x c) 0 ≡ x c
    go c h (inl e) =
        let none : sum_probes p (λ v. cond (eqb (parent c) v) (x c) 0) ≡ 0 =
        sum-zero p (λ i. cond (eqb (parent c) (i + 2)) (x c) 0) (λ i _. ap (λ (b : Bool). cond b (x c) 0) (ne_eqb (parent c) (i + 2) (λ q. omega arith))) in
        let here : cond (eqb (parent c) 1) (x c) 0 ≡ x c = ap (λ (b : Bool). cond b (x c) 0) (eq-eqb (parent c) 1 e) in
        omega (arith, none, here)
    go c h (inr ne) =
        let up = inside c h in
        let one : sum_probes p (λ v. cond (eqb (parent c) v) (x c) 0) ≡ x c =
        probes-only p (λ v. cond (eqb (parent c) v) (x c) 0) (parent c) (probe-yes p (parent c) (omega (arith, up.0)) up.1)
        (λ u other. ap (λ (b : Bool). cond b (x c) 0) (ne_eqb (parent c) u (λ e. other (sym e))))
        ∙ ap (λ (b : Bool). cond b (x c) 0) (eq-eqb (parent c) (parent c) refl) in
        let here : cond (eqb (parent c) 1) (x c) 0 ≡ 0 = ap (λ (b : Bool). cond b (x c) 0) (ne_eqb (parent c) 1 ne) in
        omega (arith, one, here)

-- the packets of one node
weigh-one : (held : List ℕ) (v : ℕ) → v < places → weigh (λ k. cond (eqb k v) 1 0) held ≡ get_or held v 0
weigh-one held v h =
    sum-only places (λ k. get_or held k 0 * cond (eqb k v) 1 0) v h
    (λ k _ other.
    let none : ◌≡◌ {A = ℕ} (cond (eqb k v) 1 0) 0 = ap (λ (b : Bool). cond b 1 0) (ne_eqb k v other) in
    ap (λ (n : ℕ). get_or held k 0 * n) none ∙ omega arith)
    ∙ (let one : ◌≡◌ {A = ℕ} (cond (eqb v v) 1 0) 1 = ap (λ (b : Bool). cond b 1 0) (eq-eqb v v refl) in
    ap (λ (n : ℕ). get_or held v 0 * n) one ∙ omega arith)

sent-weighs : (slot : List ℕ) (v : ℕ) → weigh_all (λ k. cond (eqb k v) 1 0) slot ≡ sent_in slot v
unfolding weigh_all sent_in
sent-weighs [] v = refl
sent-weighs (u ∷ slot) v = ap (λ (n : ℕ). cond (eqb u v) 1 0 + n) (sent-weighs slot v)

-- the senders of a slot that pass a test, counted: what the probes that pass it send in the slot
pub passing-sent : (p : ℕ) (test : ℕ → Bool) (slot : List ℕ) → Each (λ u. is_probe p u ≡ true) slot
    → weigh_all (λ u. cond (test u) 1 0) slot ≡ together p test (sent_in slot)
unfolding weigh_all sent_in Each
passing-sent p test [] probes = sym (together-none p test)
passing-sent p test (u ∷ slot) probes =
    ap₂ ◌+◌ (sym (together-one p test u probes.0)) (passing-sent p test slot probes.1)
    ∙ sym (together-add p test (λ v. cond (eqb u v) 1 0) (sent_in slot))

-- conservation, of one slot
pub slot-balance : (p : ℕ) (parent : ℕ → ℕ) (lo : ℕ) (slot held : List ℕ) (v : ℕ) → v < places → length held ≡ places → Rising lo slot
    → Each (Sender parent held) slot → Each (λ u. is_probe p u ≡ true) slot
    → get_or (moved parent slot held) v 0 + sent_in slot v ≡ get_or held v 0 + inflow p parent (sent_in slot) v
unfolding inflow
slot-balance p parent lo slot held v h long rising sending probes =
    omega (
      arith,
      weigh-moved (λ k. cond (eqb k v) 1 0) parent lo slot held long rising sending,
      weigh-one (moved parent slot held) v h,
      weigh-one held v h,
      sent-weighs slot v,
      passing-sent p (λ k. eqb (parent k) v) slot probes,
    )

-- slots one behind another
pub sent-append : (xs ys : List (List ℕ)) (v : ℕ) → sent (xs ++ ys) v ≡ sent xs v + sent ys v
unfolding sent
sent-append [] ys v = omega arith
sent-append (x ∷ xs) ys v = omega (arith, sent-append xs ys v)

pub sent-one : (slot : List ℕ) (v : ℕ) → sent (slot ∷ []) v ≡ sent_in slot v
unfolding sent
sent-one slot v = omega arith

pub sent-in-append : (xs ys : List ℕ) (v : ℕ) → sent_in (xs ++ ys) v ≡ sent_in xs v + sent_in ys v
unfolding sent_in
sent-in-append [] ys v = omega arith
sent-in-append (x ∷ xs) ys v = omega (arith, sent-in-append xs ys v)

-- a probe that passes is a sender
pub sender-counts : (p : ℕ) (test : ℕ → Bool) (k : ℕ) → k < p → test (k + 2) ≡ true → 1 ≤ sent_in (probes_that p test) (k + 2)
unfolding probes_that sent_in
sender-counts zero test k h e = absurd (not-suc-le-zero h)
sender-counts (suc p) test k h e =
    let parts = sent-in-append (probes_that p test) (cond (test (p + 2)) ((p + 2) ∷ []) []) (k + 2) in
    ⊎_elim (λ (l : k < p). omega (arith, parts, sender-counts p test k l e))
    (λ (l : k ≡ p).
    let last : sent_in (cond (test (p + 2)) ((p + 2) ∷ []) []) (k + 2) ≡ cond (eqb (p + 2) (k + 2)) 1 0 + 0 =
    ap (λ (b : Bool). sent_in (cond b ((p + 2) ∷ []) []) (k + 2)) (ap (λ (j : ℕ). test (j + 2)) (sym l) ∙ e) in
    let here : ◌≡◌ {A = ℕ} (cond (eqb (p + 2) (k + 2)) 1 0) 1 = ap (λ (b : Bool). cond b 1 0) (eq-eqb (p + 2) (k + 2) (omega arith)) in
    omega (arith, parts, last, here))
    (below-or-last k p h)
