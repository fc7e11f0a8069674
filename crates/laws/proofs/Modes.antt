-- Packets and merged readings alike: who may send holds something, what is sent goes to a node that is one sending nearer, and what is held at first weighs the
-- sendings. Of merged readings the yard is a star: each reading that is sent has arrived.
use mathlib.Core.Path.{◌≡◌, refl, sym, ap, ap₂, ◌∙◌}
use mathlib.Core.Bool.{Bool, true, false, cond, not, ◌&&◌}
use mathlib.Core.List.{List}
use mathlib.Core.Logic.{⊎_elim}
use Prim.Native.Nat.{ℕ, zero, suc, ◌+◌, ◌-◌, ◌*◌, ◌≤◌, ◌<◌}
use native.Mathlib.Nat.{zero-mul}
use native.Mathlib.Decide.{dec_lt}
use native.Mathlib.Omega.{arith}
use lib.Dec.{ltb}
use lib.ListN.{get_or, get_or-eq_default}
use Rattle.meaning.specs.declared.Mode.{Mode}
use Rattle.meaning.specs.declared.Mode.TheVariants.{Packets, Merged}
use Rattle.meaning.specs.Words.{tab, places}
use Rattle.meaning.specs.Yard.{is_probe, level_by, climb}
use Rattle.meaning.specs.Sheet.{probe_count, parent_of, level_of}
use Rattle.meaning.specs.Rounds.{holds, outside, waits, ready, may_in, first_in, sendings_in}
use Rattle.meaning.specs.Answer.{is_accepted, sheet_test}
use Rattle.meaning.specs.Legal.{may_of, goes_of, held_in}
use Rattle.laws.proofs.Turns.{some-where, sum_same, sum-constant, length-tab, get_or-tab}
use Rattle.laws.proofs.Walk.{not-both, probe-yes, probe-least, probe-most, climb-on, climb-here}
use Rattle.laws.proofs.Moving.{weigh}
use Rattle.laws.proofs.Slots.{and_left, true-or-false}
use Rattle.laws.proofs.Grounds.{few-probes, sum-probes, level-up, level_most, first-left, hops-most, few-packets, parent-node}
use Rattle.laws.proofs.Children.{child-found}

module _ (p : ℕ) (parent : ℕ → ℕ) (held : List ℕ) (v : ℕ) where
  -- a node is ready exactly when it has not sent and all its children have
  pub ready-is : v < places → holds (ready p parent held) v ≡ (holds held v && not (waits p parent held v))
  unfolding ready
  ready-is h = ap (ltb 0) (get_or-tab places (λ u. cond (holds held u && not (waits p parent held u)) 1 0) v 0 h) ∙ one (holds held v && not (waits p parent held v))
    where
      one : (b : Bool) → ltb 0 (cond b 1 0) ≡ b
      one true = refl
      one false = refl

  ready-past : (v < places → ⊥) → holds (ready p parent held) v ≡ false
  unfolding ready
  ready-past no_Node = ap (ltb 0) (get_or-eq_default (tab places flag) 0 {n = v} (omega (arith, length-tab places flag)))
    where
      flag : ℕ → ℕ
      flag u = cond (holds held u && not (waits p parent held u)) 1 0

  ready-holds : holds (ready p parent held) v ≡ true → holds held v ≡ true
  ready-holds e = go (dec_lt v places)
    where
      go : Dec (v < places) → holds held v ≡ true
      go (yes l) = and_left (holds held v) (not (waits p parent held v)) (sym (ready-is l) ∙ e)
      go (no l) = not-both e (ready-past l)

-- who may send holds something
pub may-holds : (mode : Mode) (p : ℕ) (parent : ℕ → ℕ) (held : List ℕ) (v : ℕ) → holds (may_in mode p parent held) v ≡ true → holds held v ≡ true
may-holds Packets p parent held v e = e
may-holds Merged p parent held v e = ready-holds p parent held v e

-- how many sendings a packet or a reading at a node still takes: its level, or one
abbrev pub weight_of : Mode → List ℕ → ℕ → ℕ
weight_of Packets s = level_of s
weight_of Merged s = level_by (probe_count s) (λ _. 1)

star-level : (p v : ℕ) → is_probe p v ≡ true → level_by p (λ _. 1) v ≡ 1
star-level p v h =
    let least = probe-least p v h in
    let last = probe-most p v h in
    let one : p ≡ suc (p - 1) = omega arith in
    ap (λ (b : Bool). cond b (climb (λ _. 1) p v) 0) h
    ∙ ap (λ (n : ℕ). climb (λ _. 1) n v) one
    ∙ climb-on (λ _. 1) (p - 1) v (λ e. omega arith)
    ∙ ap suc (climb-here (λ _. 1) (p - 1) 1 refl)

other-star : (p v : ℕ) → is_probe p v ≡ false → level_by p (λ _. 1) v ≡ 0
other-star p v h = ap (λ (b : Bool). cond b (climb (λ _. 1) p v) 0) h

gateway : (p : ℕ) → is_probe p 1 ≡ false
gateway p = refl

module _ (s : List ℕ) (ok : is_accepted (sheet_test s) ≡ true) where
  -- what is sent goes to a node ..
  pub goes-node : (mode : Mode) (v : ℕ) → is_probe (probe_count s) v ≡ true → goes_of mode s v < places
  goes-node Packets v h = parent-node s ok v h
  goes-node Merged v h = omega arith

  -- .. that is one sending nearer
  pub weight-up : (mode : Mode) (v : ℕ) → is_probe (probe_count s) v ≡ true → weight_of mode s v ≡ suc (weight_of mode s (goes_of mode s v))
  weight-up Packets v h = level-up s ok v h
  weight-up Merged v h = star-level (probe_count s) v h ∙ ap suc (sym (other-star (probe_count s) 1 (gateway (probe_count s))))

  pub weight-least : (mode : Mode) (v : ℕ) → is_probe (probe_count s) v ≡ true → 1 ≤ weight_of mode s v
  weight-least mode v h = omega (arith, weight-up mode v h)

  -- one reading a probe, weighed: as many as probes
  one_each : (w : ℕ → ℕ) → ((v : ℕ) → is_probe (probe_count s) v ≡ true → w v ≡ 1) → weigh w (held_in Merged s) ≡ probe_count s
  one_each w all =
      sum_same places (λ k. get_or (held_in Merged s) k 0 * w k) (λ k. first_in Merged s k * w k)
      (λ k h. ap (λ (x : ℕ). x * w k) (get_or-tab places (first_in Merged s) k 0 h))
      ∙ sum-probes (probe_count s) (λ k. first_in Merged s k * w k) (few-probes s ok) (λ k h. ap (λ (b : Bool). cond b 1 0 * w k) h ∙ zero-mul (w k))
      ∙ sum_same (probe_count s) (λ k. first_in Merged s (k + 2) * w (k + 2)) (λ _. 1)
      (λ k h.
      let probe = probe-yes (probe_count s) (k + 2) (omega arith) (omega arith) in
      ap (λ (b : Bool). cond b 1 0 * w (k + 2)) probe ∙ omega (arith, all (k + 2) probe))
      ∙ sum-constant (probe_count s) 1
      ∙ omega arith

  -- what is held at first weighs the sendings, and they are few
  pub sendings-left : (mode : Mode) → weigh (weight_of mode s) (held_in mode s) ≡ sendings_in mode s
  sendings-left Packets = first-left s ok
  sendings-left Merged = one_each (weight_of Merged s) (star-level (probe_count s))

  pub sendings-most : (mode : Mode) → sendings_in mode s ≤ 59535
  sendings-most Packets = hops-most s ok
  sendings-most Merged = omega (arith, few-probes s ok)

  pub few-held : (mode : Mode) → weigh (λ _. 1) (held_in mode s) ≤ 945
  few-held Packets = few-packets s ok
  few-held Merged = omega (arith, one_each (λ _. 1) (λ _ _. refl), few-probes s ok)

  -- where something is outside, some probe may send: of those that have not sent, one below which none waits
  module _ (held : List ℕ) where
    -- a child of v that has not sent yet, one level deeper
    record Child (v : ℕ) : Type 0 where
      node : ℕ
      probe : is_probe (probe_count s) node ≡ true
      has : holds held node ≡ true
      level : level_of s node ≡ suc (level_of s v)

    child : (v : ℕ) → waits (probe_count s) (parent_of s) held v ≡ true → Child v
    child v some =
        let found = child-found (probe_count s) (parent_of s) (holds held) v some in
        record {
          node = found.0;
          probe = found.1;
          has = found.3;
          level = level-up s ok found.0 found.1 ∙ ap (λ (u : ℕ). suc (level_of s u)) found.2;
        }

    abbrev Ready : Type 0
    Ready = (v : ℕ) × (is_probe (probe_count s) v ≡ true) × (holds (ready (probe_count s) (parent_of s) held) v ≡ true)

    is-ready : (v : ℕ) → is_probe (probe_count s) v ≡ true → holds held v ≡ true → waits (probe_count s) (parent_of s) held v ≡ false → Ready
    is-ready v probe has none = (
      v,
      probe,
      ready-is (probe_count s) (parent_of s) held v (omega (arith, probe-most (probe_count s) v probe, few-probes s ok)) ∙ ap₂ ◌&&◌ has (ap not none),
    )

    -- from one that has not sent to a child of it that has not, as long as one waits: no level is deeper than there are probes
    deepest : (n v : ℕ) → is_probe (probe_count s) v ≡ true → holds held v ≡ true → probe_count s ≤ level_of s v + n → Ready
    deepest zero v probe has near =
        ⊎_elim (λ some. absurd (omega (arith, (child v some).level, level_most s ok (child v some).node))) (is-ready v probe has)
        (true-or-false (waits (probe_count s) (parent_of s) held v))
    deepest (suc n) v probe has near =
        ⊎_elim (λ some. let c = child v some in deepest n c.node c.probe c.has (omega (arith, c.level))) (is-ready v probe has)
        (true-or-false (waits (probe_count s) (parent_of s) held v))

  pub some-may : (mode : Mode) (held : List ℕ) → outside (probe_count s) held ≡ true
      → (v : ℕ) × (is_probe (probe_count s) v ≡ true) × (holds (may_of mode s held) v ≡ true)
  some-may Packets held e =
      let holder = some-where (probe_count s) (λ k. holds held (k + 2)) e in
      (holder.0 + 2, probe-yes (probe_count s) (holder.0 + 2) (omega arith) (omega (arith, holder.1)), holder.2)
  some-may Merged held e =
      let holder = some-where (probe_count s) (λ k. holds held (k + 2)) e in
      deepest held (probe_count s) (holder.0 + 2) (probe-yes (probe_count s) (holder.0 + 2) (omega arith) (omega (arith, holder.1))) holder.2 (omega arith)
