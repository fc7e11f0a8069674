-- A merged plan is good by what is held exactly when it is good in words: who is ready holds its reading, so it has not sent before, and no child holds one, so
-- each child has; and where all have sent once, each after its children, each was ready in its slot. So the judge is exact in these words too.
use mathlib.Core.Path.{◌≡◌, refl, sym, ap, ◌∙◌, subst}
use mathlib.Core.Bool.{true}
use mathlib.Core.List.{List, []}
use Prim.Native.Nat.{ℕ, zero, suc, ◌≤◌, ◌<◌}
use native.Mathlib.Decide.{dec_lt}
use native.Mathlib.Omega.{arith}
use lib.ListN.{length, get_or}
use lib.Seq.{take-length}
use Rattle.meaning.specs.declared.Mode.TheVariants.{Merged}
use Rattle.meaning.specs.Words.{least, places}
use Rattle.meaning.specs.Yard.{is_probe}
use Rattle.meaning.specs.Sheet.{probe_count, parent_of}
use Rattle.meaning.specs.Rounds.{ready, held_after}
use Rattle.meaning.specs.Answer.{accepted, is_accepted}
use Rattle.meaning.specs.Judge.{judge_in}
use Rattle.meaning.specs.Book.{among}
use Rattle.meaning.specs.Legal.{Legal, may_of, goes_of, held_in, GoodIn}
use Rattle.meaning.specs.Merged.{SendsIn, MergedGood}
use Rattle.laws.proofs.Turns.{some-found, get_or-tab}
use Rattle.laws.proofs.First.{least_first, some_first}
use Rattle.laws.proofs.Exact.{passed-good, good-passed}
use Rattle.laws.proofs.MergedHeld.{stands-sends, sends-stands, runs-at, at-runs, Waited, ready-waited, waited-ready}
use Rattle.laws.proofs.MergedHeld.{held_at, node, has_first, has-stays, has-sent, sent-by}

-- from what is held to the words
module _ (s plan : List ℕ) (good : GoodIn Merged s plan) where
  abbrev p : ℕ
  p = probe_count s

  abbrev many : ℕ
  many = length good.slots

  abbrev its : ℕ → List ℕ
  its k = get_or good.slots k []

  abbrev held_of : ℕ → List ℕ
  held_of k = held_at s good.slots k

  legal : (k : ℕ) → k < many → Legal s (may_of Merged s (held_of k)) (its k)
  legal k h = runs-at Merged s (held_in Merged s) good.slots good.runs k h

  sender : (v k : ℕ) → k < many → SendsIn (its k) v → is_probe p v ≡ true
  sender v k h at = subst (λ (u : ℕ). is_probe p u ≡ true) at.2 ((legal k h).probes at.0 at.1)

  -- who sends has not sent before, and its children have
  waited : (v k : ℕ) → k < many → SendsIn (its k) v → Waited p (parent_of s) (held_of k) v
  waited v k h at =
      ready-waited p (parent_of s) (held_of k) v (node s good.slots good.sheet v (sender v k h at))
      (subst (λ (u : ℕ). 0 < get_or (ready p (parent_of s) (held_of k)) u 0) at.2 ((legal k h).holding at.0 at.1))

  -- nobody sends again
  never-again : (v j k : ℕ) → j < k → k < many → SendsIn (its j) v → SendsIn (its k) v → ⊥
  never-again v j k h l first again =
      omega (arith, (waited v k l again).has, has-sent s good.slots good.sheet v (sender v k l again) j k h (omega arith) first)

  only-once : (v j k : ℕ) → j < many → k < many → SendsIn (its j) v → SendsIn (its k) v → j ≡ k
  only-once v j k hj hk one two = go (dec_lt j k) (dec_lt k j)
    where
      go : Dec (j < k) → Dec (k < j) → j ≡ k
      go (yes l) _ = absurd (never-again v j k l hk one two)
      go (no l) (yes m) = absurd (never-again v k j m hj two one)
      go (no l) (no m) = omega arith

  -- the first slot in which v sends
  first : ℕ → ℕ
  first v = least many (λ k. among v (its k))

  first-sends : (v k : ℕ) → k < many → SendsIn (its k) v → (first v < many) × SendsIn (its (first v)) v
  unfolding first
  first-sends v k h at =
      let found = least_first many (λ j. among v (its j)) in
      let within = some_first (λ j. among v (its j)) many (first v) found (some-found many (λ j. among v (its j)) k h (sends-stands (its k) v at)) in
      (within, stands-sends (its (first v)) v (found.passes within))

  first-only : (v k : ℕ) → k < many → SendsIn (its k) v → k ≡ first v
  first-only v k h at = let found = first-sends v k h at in only-once v k (first v) h found.0 at found.1

  -- nothing is held at the end, so each probe sends
  all-send : (v : ℕ) → is_probe p v ≡ true → (first v < many) × SendsIn (its (first v)) v
  all-send v probe =
      let end = ap (held_after (goes_of Merged s) (held_in Merged s)) (take-length good.slots) in
      let sent = sent-by s good.slots good.sheet v probe many (omega arith) (ap (λ (held : List ℕ). get_or held v 0) end ∙ good.arrived v probe) in
      first-sends v sent.0 sent.1 sent.2

  -- when its parent sends a child holds nothing, so it has sent
  children-first : (c : ℕ) → is_probe p c ≡ true → is_probe p (parent_of s c) ≡ true → first c < first (parent_of s c)
  children-first c probe above =
      let at = all-send (parent_of s c) above in
      let none = (waited (parent_of s c) (first (parent_of s c)) at.0 at.1).sent c probe refl in
      let sent = sent-by s good.slots good.sheet c probe (first (parent_of s c)) (omega (arith, at.0)) none in
      omega (arith, sent.1, first-only c sent.0 (omega (arith, sent.1, at.0)) sent.2)

  -- good in words
  pub good-merged : MergedGood s plan
  good-merged =
      record {
        sheet = good.sheet;
        slots = good.slots;
        few = good.few;
        written = good.written;
        clear =
            λ k h. record {
              probes = (legal k h).probes;
              rising = (legal k h).rising;
              holding =
                  λ i l.
                  let within = node s good.slots good.sheet (get_or (its k) i 0) ((legal k h).probes i l) in
                  omega (arith, get_or-tab {A = ℕ} places (λ _. 1) (get_or (its k) i 0) 0 within);
              apart = (legal k h).apart;
            };
        when = first;
        sends = all-send;
        once = first-only;
        after_children = children-first;
      }

-- and back
module _ (s plan : List ℕ) (good : MergedGood s plan) where
  abbrev its_slots : List (List ℕ)
  its_slots = good.slots

  -- a probe holds its reading up to the slot in which it sends, and none behind it
  still : (v : ℕ) → is_probe (probe_count s) v ≡ true → (k : ℕ) → k ≤ good.when v → k ≤ length its_slots → get_or (held_at s its_slots k) v 0 ≡ 1
  still v probe zero h l = has_first s its_slots good.sheet v probe
  still v probe (suc k) h l =
      has-stays s its_slots good.sheet v probe k l (λ at. omega (arith, good.once v k l at)) ∙ still v probe k (omega arith) (omega arith)

  done : (v : ℕ) → is_probe (probe_count s) v ≡ true → (k : ℕ) → good.when v < k → k ≤ length its_slots → get_or (held_at s its_slots k) v 0 ≡ 0
  done v probe k h l = has-sent s its_slots good.sheet v probe (good.when v) k h l (good.sends v probe).1

  -- so who sends is ready
  sends-ready : (v k : ℕ) → k < length its_slots → is_probe (probe_count s) v ≡ true → SendsIn (get_or its_slots k []) v
      → 0 < get_or (ready (probe_count s) (parent_of s) (held_at s its_slots k)) v 0
  sends-ready v k h probe at =
      let now = good.once v k h at in
      waited-ready (probe_count s) (parent_of s) (held_at s its_slots k) v (node s its_slots good.sheet v probe)
      (record {
        has = omega (arith, still v probe k (omega arith) (omega arith));
        sent =
            λ c child its.
            let above = ap (is_probe (probe_count s)) its ∙ probe in
            done c child k (omega (arith, good.after_children c child above, ap good.when its)) (omega arith);
      })

  -- good by what is held
  pub merged-good : GoodIn Merged s plan
  merged-good =
      record {
        sheet = good.sheet;
        slots = good.slots;
        few = good.few;
        written = good.written;
        runs =
            at-runs Merged s (held_in Merged s) its_slots
            (λ k h.
            let clear = good.clear k h in
            record {
              probes = clear.probes;
              rising = clear.rising;
              holding = λ i l. sends-ready (get_or (get_or its_slots k []) i 0) k h (clear.probes i l) (i, l, refl);
              apart = clear.apart;
            });
        arrived =
            λ v probe.
            ap (λ (l : List (List ℕ)). get_or (held_after (goes_of Merged s) (held_in Merged s) l) v 0) (sym (take-length its_slots))
            ∙ done v probe (length its_slots) (good.sends v probe).0 (omega arith);
      }

-- the judge of merged readings passes the plans that are good in words, and no others
pub merged-passed-good : (s plan : List ℕ) → get_or plan 0 0 < 256 → get_or plan 1 0 < 256 → is_accepted (judge_in Merged s plan).outcome ≡ true → MergedGood s plan
merged-passed-good s plan high low h = good-merged s plan (passed-good Merged s plan high low h)

pub merged-good-passed : (s plan : List ℕ) (good : MergedGood s plan) → judge_in Merged s plan ≡ record { outcome = accepted; slots = length good.slots }
unfolding merged-good
merged-good-passed s plan good = good-passed Merged s plan (merged-good s plan good)
