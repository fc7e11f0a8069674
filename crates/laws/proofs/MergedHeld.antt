-- What is held of merged readings: a probe has its own reading until the slot in which it sends, and none from then on, since what is sent goes to the
-- gateway; to be ready is to have it while no child has one. By recursion over senders and slots.
use mathlib.Core.Path.{◌≡◌, refl, sym, ap, ap₂, ◌∙◌, subst}
use mathlib.Core.Bool.{Bool, true, cond, not, ◌&&◌}
use mathlib.Core.List.{List, [], ◌∷◌}
use mathlib.Core.Logic.{◌⊎◌, inl, inr, ◌≢◌, ⊎_elim}
use Prim.Native.Nat.{ℕ, zero, suc, ◌+◌, ◌-◌, ◌≤◌, ◌<◌}
use native.Mathlib.Nat.{not-suc-le-zero, le_of_suc-le-suc}
use native.Mathlib.Omega.{arith}
use lib.Dec.{eqb, ltb}
use lib.ListN.{length, get_or, take, set}
use lib.Seq.{get_or-set_same, get_or-set_other, take-suc}
use borrow.Author.Tests.{ltb-true, ltb-false, lt-ltb, eqb-true, eq-eqb, not-true}
use Rattle.meaning.specs.declared.Mode.{Mode}
use Rattle.meaning.specs.declared.Mode.TheVariants.{Merged}
use Rattle.meaning.specs.Words.{places}
use Rattle.meaning.specs.Yard.{is_probe}
use Rattle.meaning.specs.Sheet.{probe_count}
use Rattle.meaning.specs.Rounds.{holds, ready, first_in, hop, moved, held_after, waits}
use Rattle.meaning.specs.Answer.{is_accepted, sheet_test}
use Rattle.meaning.specs.Book.{among}
use Rattle.meaning.specs.Legal.{Legal, may_of, goes_of, held_in, RunsIn}
use Rattle.meaning.specs.Merged.{SendsIn}
use Rattle.laws.proofs.Turns.{below-or-last, same-or-other, some-found, some-where, length-tab, get_or-tab}
use Rattle.laws.proofs.Walk.{not-both, probe-least, probe-most}
use Rattle.laws.proofs.Moving.{length-hop, length_moved}
use Rattle.laws.proofs.Slots.{and_left, and_right, true-or-false}
use Rattle.laws.proofs.Grounds.{few-probes}
use Rattle.laws.proofs.Children.{no-child, of-no-child}
use Rattle.laws.proofs.Modes.{ready-is}
use Rattle.laws.proofs.Exact.{held-append}

pub stands-sends : (slot : List ℕ) (v : ℕ) → among v slot ≡ true → SendsIn slot v
stands-sends slot v e =
    let found = some-where (length slot) (λ i. eqb (get_or slot i 0) v) e in
    (found.0, found.1, eqb-true (get_or slot found.0 0) v found.2)

pub sends-stands : (slot : List ℕ) (v : ℕ) → SendsIn slot v → among v slot ≡ true
sends-stands slot v at = some-found (length slot) (λ i. eqb (get_or slot i 0) v) at.0 at.1 (eq-eqb (get_or slot at.0 0) v at.2)

sends-or-not : (slot : List ℕ) (v : ℕ) → SendsIn slot v ⊎ (SendsIn slot v → ⊥)
sends-or-not slot v =
    ⊎_elim (λ yes. inl (stands-sends slot v yes)) (λ no. inr (λ at. not-both (sends-stands slot v at) no)) (true-or-false (among v slot))

-- a reading that is sent is counted at the gateway
abbrev star : ℕ → ℕ
star = λ _. 1

-- a node that is not the gateway, when readings are sent: who sends has one less, who does not has what it had
module _ (v : ℕ) (other : v ≢ 1) where
  hop-else : (u : ℕ) (held : List ℕ) → v ≢ u → get_or (hop star u held) v 0 ≡ get_or held v 0
  hop-else u held ne =
      let less : List ℕ = set held u (get_or held u 0 - 1) in
      get_or-set_other less 1 v (get_or less 1 0 + 1) 0 other ∙ get_or-set_other held u v (get_or held u 0 - 1) 0 ne

  hop-itself : (u : ℕ) (held : List ℕ) → v ≡ u → v < length held → get_or (hop star u held) v 0 ≡ get_or held v 0 - 1
  hop-itself u held e long =
      let less : List ℕ = set held v (get_or held v 0 - 1) in
      subst (λ (w : ℕ). get_or (hop star w held) v 0 ≡ get_or held v 0 - 1) e
      (get_or-set_other less 1 v (get_or less 1 0 + 1) 0 other ∙ get_or-set_same held v (get_or held v 0 - 1) 0 long)

  hop-less : (u : ℕ) (held : List ℕ) → v < length held → get_or (hop star u held) v 0 ≤ get_or held v 0
  hop-less u held long =
      ⊎_elim (λ e. omega (arith, hop-itself u held e long)) (λ ne. omega (arith, hop-else u held ne)) (same-or-other v u)

  moved-less : (slot held : List ℕ) → v < length held → get_or (moved star slot held) v 0 ≤ get_or held v 0
  unfolding moved
  moved-less [] held long = omega arith
  moved-less (u ∷ slot) held long =
      omega (arith, moved-less slot (hop star u held) (omega (arith, length-hop star u held)), hop-less u held long)

  moved-stays : (slot held : List ℕ) → (SendsIn slot v → ⊥) → get_or (moved star slot held) v 0 ≡ get_or held v 0
  unfolding moved
  moved-stays [] held none = refl
  moved-stays (u ∷ slot) held none =
      moved-stays slot (hop star u held) (λ at. none (suc at.0, omega (arith, at.1), at.2))
      ∙ hop-else u held (λ e. none (0, omega arith, sym e))

  moved-sent : (slot held : List ℕ) (i : ℕ) → v < length held → get_or held v 0 ≤ 1 → i < length slot → get_or slot i 0 ≡ v
      → get_or (moved star slot held) v 0 ≡ 0
  unfolding moved
  moved-sent [] held i long one h e = absurd (not-suc-le-zero h)
  moved-sent (u ∷ slot) held zero long one h e =
      omega (arith, moved-less slot (hop star u held) (omega (arith, length-hop star u held)), hop-itself u held (sym e) long)
  moved-sent (u ∷ slot) held (suc i) long one h e =
      moved-sent slot (hop star u held) i (omega (arith, length-hop star u held)) (omega (arith, hop-less u held long)) (le_of_suc-le-suc h) e

length-after : (parent : ℕ → ℕ) (held : List ℕ) (slots : List (List ℕ)) → length (held_after parent held slots) ≡ length held
unfolding held_after
length-after parent held [] = refl
length-after parent held (slot ∷ slots) = length-after parent (moved parent slot held) slots ∙ length_moved parent slot held

-- slots that run, by place: each is legal when those before it have been sent
pub runs-at : (mode : Mode) (s held : List ℕ) (slots : List (List ℕ)) → RunsIn mode s held slots
    → (k : ℕ) → k < length slots → Legal s (may_of mode s (held_after (goes_of mode s) held (take k slots))) (get_or slots k [])
unfolding RunsIn held_after
runs-at mode s held [] runs k h = absurd (not-suc-le-zero h)
runs-at mode s held (slot ∷ slots) runs zero h = runs.0
runs-at mode s held (slot ∷ slots) runs (suc k) h = runs-at mode s (moved (goes_of mode s) slot held) slots runs.1 k (le_of_suc-le-suc h)

pub at-runs : (mode : Mode) (s held : List ℕ) (slots : List (List ℕ))
    → ((k : ℕ) → k < length slots → Legal s (may_of mode s (held_after (goes_of mode s) held (take k slots))) (get_or slots k []))
    → RunsIn mode s held slots
unfolding RunsIn held_after
at-runs mode s held [] legal = tt
at-runs mode s held (slot ∷ slots) legal =
    (legal 0 (omega arith), at-runs mode s (moved (goes_of mode s) slot held) slots (λ k h. legal (suc k) (omega arith)))

-- ready, in numbers: it has not sent, and each of its children has
module _ (p : ℕ) (parent : ℕ → ℕ) (held : List ℕ) (v : ℕ) where
  pub record Waited : Type 0 where
    pub has : 0 < get_or held v 0
    pub sent : (c : ℕ) → is_probe p c ≡ true → parent c ≡ v → get_or held c 0 ≡ 0

  pub ready-waited : v < places → 0 < get_or (ready p parent held) v 0 → Waited
  ready-waited node h =
      let both = sym (ready-is p parent held v node) ∙ lt-ltb 0 (get_or (ready p parent held) v 0) h in
      let none = not-true (waits p parent held v) (and_right (holds held v) (not (waits p parent held v)) both) in
      record {
        has = ltb-true 0 (get_or held v 0) (and_left (holds held v) (not (waits p parent held v)) both);
        sent = λ c probe its. omega (arith, ltb-false 0 (get_or held c 0) (of-no-child p parent (holds held) v none c probe its));
      }

  pub waited-ready : v < places → Waited → 0 < get_or (ready p parent held) v 0
  waited-ready node waited =
      let none = no-child p parent (holds held) v (λ c probe its. ap (ltb 0) (waited.sent c probe its)) in
      ltb-true 0 (get_or (ready p parent held) v 0)
      (ready-is p parent held v node ∙ ap₂ ◌&&◌ (lt-ltb 0 (get_or held v 0) waited.has) (ap not none))

-- what is held when k slots have been sent
module _ (s : List ℕ) (slots : List (List ℕ)) where
  abbrev pub held_at : ℕ → List ℕ
  held_at k = held_after (goes_of Merged s) (held_in Merged s) (take k slots)

  abbrev slot_at : ℕ → List ℕ
  slot_at k = get_or slots k []

  held_next : (k : ℕ) → k < length slots → held_at (suc k) ≡ moved (goes_of Merged s) (slot_at k) (held_at k)
  unfolding held_after
  held_next k h =
      ap (held_after (goes_of Merged s) (held_in Merged s)) (take-suc slots k [] h)
      ∙ held-append (goes_of Merged s) (held_in Merged s) (take k slots) (slot_at k ∷ [])

  held-long : (k : ℕ) → length (held_at k) ≡ places
  held-long k = length-after (goes_of Merged s) (held_in Merged s) (take k slots) ∙ length-tab places (first_in Merged s)

  module _ (ok : is_accepted (sheet_test s) ≡ true) (v : ℕ) (probe : is_probe (probe_count s) v ≡ true) where
    pub node : v < places
    node = omega (arith, probe-most (probe_count s) v probe, few-probes s ok)

    no-gateway : v ≢ 1
    no-gateway e = omega (arith, probe-least (probe_count s) v probe)

    listed : (k : ℕ) → v < length (held_at k)
    listed k = omega (arith, held-long k, node)

    abbrev has : ℕ → ℕ
    has k = get_or (held_at k) v 0

    at_next : (k : ℕ) → k < length slots → has (suc k) ≡ get_or (moved (goes_of Merged s) (slot_at k) (held_at k)) v 0
    at_next k h = ap (λ (held : List ℕ). get_or held v 0) (held_next k h)

    -- at first its own reading
    pub has_first : has 0 ≡ 1
    unfolding held_after
    has_first = get_or-tab places (first_in Merged s) v 0 node ∙ ap (λ (b : Bool). cond b 1 0) probe

    -- never more than before
    has-less : (j k : ℕ) → j ≤ k → k ≤ length slots → has k ≤ has j
    has-less j zero h l = let same : j ≡ 0 = omega arith in omega (arith, ap has same)
    has-less j (suc k) h l =
        ⊎_elim
        (λ (below : j < suc k).
        omega (arith, has-less j k (omega arith) (omega arith), at_next k l, moved-less v no-gateway (slot_at k) (held_at k) (listed k)))
        (λ (e : j ≡ suc k). omega (arith, ap has e))
        (below-or-last j (suc k) (omega arith))

    -- at most one reading, its own
    has_one : (k : ℕ) → k ≤ length slots → has k ≤ 1
    has_one k h = omega (arith, has-less 0 k (omega arith) h, has_first)

    -- what it had, where it does not send
    pub has-stays : (k : ℕ) → k < length slots → (SendsIn (slot_at k) v → ⊥) → has (suc k) ≡ has k
    has-stays k h none = at_next k h ∙ moved-stays v no-gateway (slot_at k) (held_at k) none

    -- none when it has sent, and then for good
    pub has-sent : (j k : ℕ) → j < k → k ≤ length slots → SendsIn (slot_at j) v → has k ≡ 0
    has-sent j k h l at =
        omega (
          arith,
          has-less (suc j) k (omega arith) l,
          at_next j (omega arith),
          moved-sent v no-gateway (slot_at j) (held_at j) at.0 (listed j) (has_one j (omega arith)) at.1 at.2,
        )

    -- who has none has sent
    pub sent-by : (k : ℕ) → k ≤ length slots → has k ≡ 0 → (j : ℕ) × (j < k) × SendsIn (slot_at j) v
    sent-by zero h none = absurd (omega (arith, has_first))
    sent-by (suc k) h none =
        ⊎_elim (λ at. (k, omega arith, at))
        (λ not-here.
        let before = sent-by k (omega arith) (sym (has-stays k h not-here) ∙ none) in
        (before.0, omega (arith, before.1), before.2))
        (sends-or-not (slot_at k) v)
