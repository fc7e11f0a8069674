-- What an accepted sheet gives to plan on: each probe stands one level above its parent, the packets are few, and where they begin they weigh the hops.
use mathlib.Core.Path.{◌≡◌, sym, ap, ◌∙◌, fun_ext}
use mathlib.Core.Bool.{Bool, true, false, cond}
use mathlib.Core.List.{List}
use mathlib.Core.Logic.{⊎_elim}
use Prim.Native.Nat.{ℕ, zero, suc, ◌+◌, ◌*◌, ◌≤◌, ◌<◌}
use native.Mathlib.Nat.{mul-zero, mul-le-mul}
use native.Mathlib.Omega.{arith}
use lib.ListN.{get_or}
use Rattle.meaning.specs.Words.{sum, sum_probes, tab, places}
use Rattle.meaning.specs.Yard.{is_probe, climb}
use Rattle.meaning.specs.Sheet.{probe_count, parent_of, packets_of, all_packets, level_of, hops}
use Rattle.meaning.specs.Answer.{is_accepted, sheet_test}
use Rattle.meaning.specs.Legal.{held_first}
use Rattle.laws.proofs.Turns.{below-or-last, same-or-other, sum_same, sum-least, sum-constant, get_or-tab, get_or-places}
use Rattle.laws.proofs.Walk.{probe-yes, probe-below, probe-past, probe-least, climb-up, climb-here, climb-most}
use Rattle.laws.proofs.Moving.{weigh}
use Rattle.laws.proofs.Slots.{true-or-false}
use Rattle.laws.proofs.Accepted.{accepted-yard, parent-outside, packets-outside}

-- from m on there is nothing more to add
sum-behind : (m n : ℕ) (f : ℕ → ℕ) → m ≤ n → ((k : ℕ) → m ≤ k → f k ≡ 0) → sum n f ≡ sum m f
unfolding sum
sum-behind m zero f h none = let last : 0 ≡ m = omega arith in ap (λ (k : ℕ). sum k f) last
sum-behind m (suc n) f h none =
    ⊎_elim (λ (l : m < suc n). omega (arith, sum-behind m n f (omega arith) none, none n (omega arith)))
    (λ (l : m ≡ suc n). ap (λ (k : ℕ). sum k f) (sym l))
    (below-or-last m (suc n) (omega arith))

sum-two : (n : ℕ) (f : ℕ → ℕ) → sum (suc (suc n)) f ≡ f 0 + f 1 + sum n (λ k. f (k + 2))
unfolding sum
sum-two zero f = omega arith
sum-two (suc n) f =
    let next : f (n + 2) ≡ f (suc (suc n)) = let same : n + 2 ≡ suc (suc n) = omega arith in ap f same in
    omega (arith, sum-two n f, next)

-- a sum over all nodes of what only probes have is a sum over the probes
pub sum-probes : (p : ℕ) (f : ℕ → ℕ) → p ≤ 63 → ((k : ℕ) → is_probe p k ≡ false → f k ≡ 0) → sum places f ≡ sum_probes p f
sum-probes p f small none =
    sum-behind (suc (suc p)) places f (omega arith) (λ k h. none k (probe-past p k (omega arith)))
    ∙ sum-two p f
    ∙ omega (arith, none 0 (probe-below p 0 (omega arith)), none 1 (probe-below p 1 (omega arith)))

-- before the first slot all packets are at the probes
pub packets-first : (s : List ℕ) → probe_count s ≤ 63 → weigh (λ _. 1) (held_first s) ≡ all_packets s
unfolding all_packets
packets-first s few =
    sum_same places (λ k. get_or (held_first s) k 0 * 1) (packets_of s) (λ k hk. omega (arith, get_or-tab places (packets_of s) k 0 hk))
    ∙ sum-probes (probe_count s) (packets_of s) few (packets-outside s)

module _ (s : List ℕ) (ok : is_accepted (sheet_test s) ≡ true) where
  pub few-probes : probe_count s ≤ 63
  few-probes = (accepted-yard s ok).few

  -- "Numbers of the yard": a probe's level is that of the walk, one more than its parent's, and nothing else has one
  probe-level : (v : ℕ) → is_probe (probe_count s) v ≡ true → level_of s v ≡ climb (parent_of s) (probe_count s) v
  unfolding level_of
  probe-level v h = ap (λ (b : Bool). cond b (climb (parent_of s) (probe_count s) v) 0) h

  pub other-level : (v : ℕ) → is_probe (probe_count s) v ≡ false → level_of s v ≡ 0
  unfolding level_of
  other-level v h = ap (λ (b : Bool). cond b (climb (parent_of s) (probe_count s) v) 0) h

  node-level : (v : ℕ) → 1 ≤ v → v ≤ probe_count s + 1 → level_of s v ≡ climb (parent_of s) (probe_count s) v
  node-level v low high =
      ⊎_elim
      (λ (e : v ≡ 1). other-level v (probe-below (probe_count s) v (omega arith)) ∙ sym (climb-here (parent_of s) (probe_count s) v e))
      (λ e. probe-level v (probe-yes (probe_count s) v (omega arith) high))
      (same-or-other v 1)

  pub level-up : (v : ℕ) → is_probe (probe_count s) v ≡ true → level_of s v ≡ suc (level_of s (parent_of s v))
  level-up v h =
      let probe = (accepted-yard s ok).probe v h in
      let least = probe-least (probe_count s) v h in
      probe-level v h
      ∙ (climb-up (parent_of s) (probe_count s) v probe.arrives (λ e. omega arith)).0
      ∙ ap suc (sym (node-level (parent_of s v) probe.parent_least probe.parent_most))

  pub level-least : (v : ℕ) → is_probe (probe_count s) v ≡ true → 1 ≤ level_of s v
  level-least v h = omega (arith, level-up v h)

  pub level_most : (v : ℕ) → level_of s v ≤ probe_count s
  level_most v =
      ⊎_elim (λ (e : is_probe (probe_count s) v ≡ true). omega (arith, probe-level v e, climb-most (parent_of s) (probe_count s) v))
      (λ (e : is_probe (probe_count s) v ≡ false). omega (arith, other-level v e))
      (true-or-false (is_probe (probe_count s) v))

  -- what is held at first, weighed by level, is the hops of the sheet
  pub first-left : weigh (level_of s) (held_first s) ≡ hops s
  unfolding hops
  first-left =
      sum_same places (λ k. get_or (held_first s) k 0 * level_of s k) (λ k. packets_of s k * level_of s k)
      (λ k h. ap (λ (x : ℕ). x * level_of s k) (get_or-tab places (packets_of s) k 0 h))
      ∙ sum-probes (probe_count s) (λ k. packets_of s k * level_of s k) few-probes
      (λ k h. ap (λ (x : ℕ). packets_of s k * x) (other-level k h) ∙ mul-zero (packets_of s k))

  -- each of at most 63 probes has at most 15 packets, at most 63 hops away
  pub hops-most : hops s ≤ 59535
  unfolding hops
  hops-most =
      let each = sum-least (probe_count s) (λ k. packets_of s (k + 2) * level_of s (k + 2)) (λ _. 945)
      (λ k h.
      mul-le-mul ((accepted-yard s ok).probe (k + 2) (probe-yes (probe_count s) (k + 2) (omega arith) (omega arith))).packets_most
      (at_most (k + 2))) in
      omega (arith, each, sum-constant (probe_count s) 945, few-probes)
    where
      at_most : (v : ℕ) → level_of s v ≤ 63
      at_most v = omega (arith, level_most v, few-probes)

  -- the lists by node read as what they were made of
  pub parent-read : (λ (u : ℕ). get_or (tab places (parent_of s)) u 0) ≡ parent_of s
  parent-read = fun_ext (get_or-places (parent_of s) 0 (λ k h. parent-outside s k (probe-past (probe_count s) k (omega (arith, few-probes)))))

  pub packets-read : (k : ℕ) → get_or (held_first s) k 0 ≡ packets_of s k
  packets-read = get_or-places (packets_of s) 0 (λ k h. packets-outside s k (probe-past (probe_count s) k (omega (arith, few-probes))))

  pub parent-node : (v : ℕ) → is_probe (probe_count s) v ≡ true → parent_of s v < places
  parent-node v h = omega (arith, ((accepted-yard s ok).probe v h).parent_most, few-probes)

  -- all packets together
  pub few-packets : weigh (λ _. 1) (held_first s) ≤ 945
  few-packets =
      omega (
        arith,
        sum-probes (probe_count s) (λ k. get_or (held_first s) k 0 * 1) few-probes (λ k h. omega (arith, packets-read k, packets-outside s k h)),
        sum-least (probe_count s) (λ k. get_or (held_first s) (k + 2) 0 * 1) (λ _. 15)
            (λ k h.
            omega (
              arith,
              packets-read (k + 2),
              ((accepted-yard s ok).probe (k + 2) (probe-yes (probe_count s) (k + 2) (omega arith) (omega arith))).packets_most,
            )),
        sum-constant (probe_count s) 15,
        few-probes,
      )
