-- The first 96,032 bytes decide every verdict about a plan, and whom it names; of a merged plan the first 65,855. Each sender of a passed slot makes a sending, so that the
-- passed slots have at most 30,240 senders, or 63, and every slot that the judge reads stands in these bytes. Where none is refused, bytes are left behind them.
use mathlib.Core.Path.{◌≡◌, refl, sym, ap, ap₂, ◌∙◌, subst}
use mathlib.Core.Bool.{Bool, true, false, cond}
use mathlib.Core.List.{List, [], ◌∷◌}
use mathlib.Core.Logic.{◌⊎◌, inl, inr, ⊎_elim}
use Prim.Native.Nat.{ℕ, zero, suc, ◌+◌, ◌*◌, ◌≤◌, ◌<◌}
use native.Mathlib.Decide.{dec_lt}
use native.Mathlib.Omega.{arith}
use borrow.Author.Tests.{ltb-false, leb-true, leb-false, lt-ltb, le-ltb}
use lib.Dec.{ltb, leb}
use lib.ListN.{length, get_or, take, drop, length-drop}
use lib.Seq.{take_all, take-take, get_or-take, length-take-le}
use Rattle.meaning.specs.declared.Mode.{Mode}
use Rattle.meaning.specs.declared.Mode.TheVariants.{Packets, Merged}
use Rattle.meaning.specs.declared.Outcome.{Outcome}
use Rattle.meaning.specs.declared.Verdict.{Verdict}
use Rattle.meaning.specs.declared.Names.{Names}
use Rattle.meaning.specs.Words.{for_each, places}
use Rattle.meaning.specs.Plan.{deciding_plan, deciding_merged, next_at, senders_at}
use Rattle.meaning.specs.Sheet.{two_at, probe_count, parent_of}
use Rattle.meaning.specs.Conflict.{entry, conflict_table}
use Rattle.meaning.specs.Rounds.{outside, sendings_in, moved}
use Rattle.meaning.specs.Legal.{may_of, goes_of, held_in}
use Rattle.meaning.specs.Answer.{accepted, is_accepted, given, ◌then◌, sheet_test}
use Rattle.meaning.specs.Judge.{Judging, slot_test, slot_judged, slots_judged, plan_judged_by, plan_judged, judge_in, judge, slot_names, plan_names_by, plan_names, judgement_in, judgement}
use Rattle.laws.proofs.Turns.{length-tab}
use Rattle.laws.proofs.Accepted.{then-accepted, given-accepted}
use Rattle.laws.proofs.Moving.{length_moved}
use Rattle.laws.proofs.Running.{left, legal-left}
use Rattle.laws.proofs.Passed.{Passes, Refused, turn}
use Rattle.laws.proofs.Exact.{passed-legal}
use Rattle.laws.proofs.Naming.{Naming}
use Rattle.laws.proofs.Blame.{without-names, named-slot, accepted-names, names-rightly}
use Rattle.laws.proofs.Grounds.{few-probes}
use Rattle.laws.proofs.Modes.{sendings-left}
use Rattle.limits.proofs.Sums.{for_each-counts}
use Rattle.limits.proofs.Hops.{hops-limit}
use Rattle.limits.proofs.Deciding.{verdict-refused, judgement-refused}

-- a part that ends within the first n
part_of : (a m n : ℕ) (l : List ℕ) → a + m ≤ n → take m (drop a (take n l)) ≡ take m (drop a l)
part_of zero m n l h = take-take m n l (omega arith)
part_of (suc a) m zero l h = absurd (omega arith)
part_of (suc a) m (suc n) [] h = refl
part_of (suc a) m (suc n) (x ∷ l) h = part_of a m n l (omega arith)

-- steps that agree at what is come to come to the same
for_each-agree : {A : Type 0} (P : ℕ → A → Type 0) (n : ℕ) (f g : ℕ → A → A) (start : A) → ((k : ℕ) → P k (for_each k g start))
    → ((k : ℕ) → k < n → (a : A) → P k a → f k a ≡ g k a) → for_each n f start ≡ for_each n g start
unfolding for_each
for_each-agree P zero f g start all same = refl
for_each-agree P (suc n) f g start all same =
    ap (f n) (for_each-agree P n f g start all (λ k h. same k (omega arith))) ∙ same n (omega arith) (for_each n g start) (all n)

-- how many sendings there are at most, and how many bytes of a plan decide: the number of slots, a count for each, the senders, and one slot's more
abbrev pub most_in : Mode → ℕ
most_in Packets = 30240
most_in Merged = 63

abbrev pub deciding_in : Mode → ℕ
deciding_in Packets = deciding_plan
deciding_in Merged = deciding_merged

deciding-is : (mode : Mode) → deciding_in mode ≡ 65792 + most_in mode
deciding-is Packets = refl
deciding-is Merged = refl

module _ (mode : Mode) (s : List ℕ) (ok : is_accepted (sheet_test s) ≡ true) where
  abbrev unsent : List ℕ → ℕ
  unsent held = left mode s ok held

  sendings-limit : sendings_in mode s ≤ most_in mode
  sendings-limit = go mode
    where
      go : (m : Mode) → sendings_in m s ≤ most_in m
      go Packets = hops-limit s ok
      go Merged = few-probes s ok

  -- after k slots: each has its count byte, and each sender passed is one sending fewer that is left
  record Near (k : ℕ) (now : Judging) : Type 0 where
    long : length now.held ≡ places
    near : now.at + unsent now.held ≤ 2 + k + sendings_in mode s

  abbrev step : List ℕ → ℕ → Judging → Judging
  step plan place now = slot_judged mode (probe_count s) (parent_of s) (entry (conflict_table s)) plan place now

  abbrev start : Judging
  start = record { outcome = accepted; at = 2; held = held_in mode s }

  abbrev judged : List ℕ → ℕ → Judging
  judged plan many = slots_judged mode (probe_count s) (parent_of s) (entry (conflict_table s)) plan many start

  near-judged : (plan : List ℕ) (k : ℕ) (now : Judging) → Near k now → Near (suc k) (step plan (k + 1) now)
  near-judged plan k now so =
      ⊎_elim
      (λ (pass : Passes mode (probe_count s) (parent_of s) (entry (conflict_table s)) plan (k + 1) now).
      let slot : List ℕ = senders_at plan now.at in
      let whole : length slot ≡ get_or plan now.at 0 =
      length-take-le (get_or plan now.at 0) (drop (now.at + 1) plan) (rw (length-drop (now.at + 1) plan) (omega (arith, pass.within)))
      in
      record {
        long = ap length pass.moves ∙ length_moved (goes_of mode s) slot now.held ∙ so.long;
        near =
            omega (
              arith,
              so.near,
              whole,
              pass.next,
              ap unsent pass.moves,
              legal-left mode s ok now.held slot (passed-legal s ok (may_of mode s now.held) (k + 1) slot pass.tested) so.long,
            );
      })
      (λ (refuses : Refused mode (probe_count s) (parent_of s) (entry (conflict_table s)) plan (k + 1) now).
      record { long = ap length refuses.rests ∙ so.long; near = omega (arith, so.near, refuses.stays, ap unsent refuses.rests) })
      (turn mode (probe_count s) (parent_of s) (entry (conflict_table s)) plan (k + 1) now)

  near-all : (plan : List ℕ) (k : ℕ) → Near k (judged plan k)
  unfolding slots_judged
  near-all plan k =
      for_each-counts Near k (λ j now. cond (is_accepted now.outcome) (step plan (j + 1) now) now) start
      (record { long = length-tab places _; near = omega (arith, sendings-left s ok mode) })
      (λ j _ now so. go j now (is_accepted now.outcome) so)
    where
      go : (j : ℕ) (now : Judging) (b : Bool) → Near j now → Near (suc j) (cond b (step plan (j + 1) now) now)
      go j now true so = near-judged plan j now so
      go j now false so = record { long = so.long; near = omega (arith, so.near) }

  -- a passed plan ends behind its last slot
  pub passed-short : (plan : List ℕ) → ((k : ℕ) → get_or plan k 0 < 256) → is_accepted (judge_in mode s plan).outcome ≡ true → length plan ≤ 65537 + most_in mode
  unfolding judge_in plan_judged plan_judged_by
  passed-short plan bytes h =
      let slots = then-accepted _ _ (then-accepted _ _ (then-accepted _ _ h).1).1 in
      let end : Judging = judged plan (two_at plan 0) in
      omega (
        arith,
        ltb-false end.at (length plan) (given-accepted 16 (two_at plan 0) (ltb end.at (length plan)) refl (then-accepted _ _ slots.1).0),
        (near-all plan (two_at plan 0)).near,
        sendings-limit,
        bytes 0,
        bytes 1,
      )

  module _ (plan : List ℕ) (bytes : (k : ℕ) → get_or plan k 0 < 256) (n : ℕ) (enough : 65792 + most_in mode ≤ n) (more : n < length plan) where
    abbrev first : List ℕ
    first = take n plan

    many-bytes : length first ≡ n
    many-bytes = length-take-le n plan (omega arith)

    -- a slot whose turn comes begins so near the start that it is the same in the first bytes
    turn_near : (k : ℕ) → k < 65535 → (now : Judging) → Near k now → now.at ≤ 65536 + most_in mode
    turn_near k h now so = omega (arith, so.near, sendings-limit)

    same_count : (at : ℕ) → at ≤ 65536 + most_in mode → get_or first at 0 ≡ get_or plan at 0
    same_count at here = get_or-take n plan at 0 (omega arith)

    same-senders : (at : ℕ) → at ≤ 65536 + most_in mode → senders_at first at ≡ senders_at plan at
    same-senders at here =
        ap (λ (m : ℕ). take m (drop (at + 1) first)) (same_count at here) ∙ part_of (at + 1) (get_or plan at 0) n plan (omega (arith, bytes at))

    -- a slot that the judge comes to is the same in the first bytes
    same-slot : (k : ℕ) → k < 65535 → (now : Judging) → Near k now → step first (k + 1) now ≡ step plan (k + 1) now
    unfolding slot_judged
    same-slot k h now so =
        ap (λ (late : Bool). answer late (next_at first now.at) (senders_at first now.at)) (le-ltb (length first) (next_at first now.at) (omega (arith, there, many-bytes)))
        ∙ ap₂ (answer false) (ap (λ (m : ℕ). now.at + 1 + m) count) (same-senders now.at here)
        ∙ sym (ap (λ (late : Bool). answer late (next_at plan now.at) (senders_at plan now.at)) (le-ltb (length plan) (next_at plan now.at) (omega (arith, there, count))))
      where
        answer : Bool → ℕ → List ℕ → Judging
        answer late next slot =
            let outcome = given 11 (k + 1) late then slot_test (probe_count s) (entry (conflict_table s)) (may_of mode s now.held) (k + 1) slot in
            cond (is_accepted outcome)
            (record { outcome = outcome; at = next; held = moved (goes_of mode s) slot now.held })
            (record { outcome = outcome; at = now.at; held = now.held })

        here : now.at ≤ 65536 + most_in mode
        here = turn_near k h now so

        count : get_or first now.at 0 ≡ get_or plan now.at 0
        count = same_count now.at here

        there : next_at first now.at ≤ n
        there = omega (arith, here, count, bytes now.at)

    same-slots : (many : ℕ) → many ≤ 65535 → judged first many ≡ judged plan many
    unfolding slots_judged
    same-slots many h =
        for_each-agree Near many (λ j now. cond (is_accepted now.outcome) (step first (j + 1) now) now)
        (λ j now. cond (is_accepted now.outcome) (step plan (j + 1) now) now) start (near-all plan)
        (λ j l now so. ap (λ (next : Judging). cond (is_accepted now.outcome) next now) (same-slot j (omega arith) now so))

    same-many : two_at first 0 ≡ two_at plan 0
    same-many = ap₂ (λ (x y : ℕ). 256 * x + y) (get_or-take n plan 0 0 (omega arith)) (get_or-take n plan 1 0 (omega arith))

    few-slots : two_at plan 0 ≤ 65535
    few-slots = omega (arith, bytes 0, bytes 1)

    -- the judge ends alike in both
    same_end : judged first (two_at first 0) ≡ judged plan (two_at plan 0)
    same_end = ap (judged first) same-many ∙ same-slots (two_at plan 0) few-slots

    -- behind the last slot bytes are left, in both
    same-judged : plan_judged mode s first ≡ plan_judged mode s plan
    unfolding plan_judged plan_judged_by
    same-judged =
        ap₂ (λ (m : ℕ) (end : Judging). ending m end (ltb end.at (length first))) same-many same_end
        ∙ ap (ending (two_at plan 0) last) (lt-ltb last.at (length first) (omega (arith, here, many-bytes)) ∙ sym (lt-ltb last.at (length plan) (omega (arith, here))))
      where
        ending : ℕ → Judging → Bool → Outcome
        ending many end behind = end.outcome then given 16 many behind then given 17 many (outside (probe_count s) end.held)

        last : Judging
        last = judged plan (two_at plan 0)

        here : last.at ≤ 65537 + most_in mode
        here = omega (arith, (near-all plan (two_at plan 0)).near, sendings-limit, few-slots)

    same-verdict : judge_in mode s first ≡ judge_in mode s plan
    unfolding judge_in
    same-verdict =
        ap₂ (λ (o : Outcome) (m : ℕ). record { outcome = o; slots = cond (is_accepted o) m 0 })
        (ap₂ (λ (b : Bool) (o : Outcome). sheet_test s then given 11 0 b then o)
        (le-ltb (length first) 2 (omega (arith, many-bytes)) ∙ sym (le-ltb (length plan) 2 (omega arith)))
        same-judged)
        same-many

    -- the slot that is named in had its turn, so that it is the same; elsewhere nobody is named
    same_names : (judgement_in mode s first).names ≡ (judgement_in mode s plan).names
    unfolding plan_names plan_names_by
    same_names = go (dec_lt (number plan) 12) (dec_lt 15 (number plan))
      where
        number : List ℕ → ℕ
        number l = (judge_in mode s l).outcome.number

        same_number : number first ≡ number plan
        same_number = ap (λ (v : Verdict). v.outcome.number) same-verdict

        nobody-named : (number plan < 12) ⊎ (15 < number plan) → (judgement_in mode s first).names ≡ (judgement_in mode s plan).names
        nobody-named out =
            (names-rightly mode s first ok).else_nobody (subst (λ (m : ℕ). (m < 12) ⊎ (15 < m)) (sym same_number) out)
            ∙ sym ((names-rightly mode s plan ok).else_nobody out)

        end : Judging
        end = judged plan (two_at plan 0)

        names_in : List ℕ → Judging → Names
        names_in slot now = slot_names (probe_count s) (entry (conflict_table s)) (may_of mode s now.held) slot (number plan)

        someone-named : Naming (number plan) → (judgement_in mode s first).names ≡ (judgement_in mode s plan).names
        someone-named named =
            let stop = (named-slot mode s plan ok named).stop in
            let had = turn_near stop.passed (omega (arith, stop.below, few-slots)) (judged plan stop.passed) (near-all plan stop.passed) in
            let here : end.at ≤ 65536 + most_in mode = omega (arith, had, ap (λ (now : Judging). now.at) stop.ends) in
            accepted-names mode s first ok
            ∙ ap (plan_names mode s first) same_number
            ∙ ap (λ (now : Judging). names_in (senders_at first now.at) now) same_end
            ∙ ap (λ (slot : List ℕ). names_in slot end) (same-senders end.at here)
            ∙ sym (accepted-names mode s plan ok)

        go : Dec (number plan < 12) → Dec (15 < number plan) → (judgement_in mode s first).names ≡ (judgement_in mode s plan).names
        go (yes low) _ = nobody-named (inl low)
        go (no low) (yes high) = nobody-named (inr high)
        go (no low) (no high) = someone-named (omega arith, omega arith)

    same-judgement : judgement_in mode s first ≡ judgement_in mode s plan
    same-judgement =
        ap₂ (λ (v : Verdict) (n : Names). record { verdict = v; names = n }) (without-names mode s first ∙ same-verdict ∙ sym (without-names mode s plan)) same_names

-- the first n bytes decide an answer that is the same for every plan where the sheet is refused, and for them and a longer plan where it is accepted
pub decided-by : {A : Type 0} (n : ℕ) (answer : List ℕ → A) (refusal : A) (s plan : List ℕ)
    → (is_accepted (sheet_test s) ≡ false → (l : List ℕ) → answer l ≡ refusal)
    → (is_accepted (sheet_test s) ≡ true → n < length plan → answer (take n plan) ≡ answer plan)
    → answer (take n plan) ≡ answer plan
decided-by n answer refusal s plan refuses same = go (is_accepted (sheet_test s)) (leb (length plan) n) refl refl
  where
    go : (a b : Bool) → is_accepted (sheet_test s) ≡ a → leb (length plan) n ≡ b → answer (take n plan) ≡ answer plan
    go a true e short = ap answer (take_all n plan (leb-true (length plan) n short))
    go false false refused long = refuses refused (take n plan) ∙ sym (refuses refused plan)
    go true false ok long = same ok (leb-false (length plan) n long)

-- the verdict, and whom it names, of packets and of merged readings alike
pub plan-decided-in : (mode : Mode) (s plan : List ℕ) → ((k : ℕ) → get_or plan k 0 < 256) → judge_in mode s (take (deciding_in mode) plan) ≡ judge_in mode s plan
plan-decided-in mode s plan bytes =
    decided-by (deciding_in mode) (judge_in mode s) _ s plan (λ no. verdict-refused s no mode)
    (λ ok long. same-verdict mode s ok plan bytes (deciding_in mode) (omega (arith, deciding-is mode)) long)

pub plan-judgement-decided-in : (mode : Mode) (s plan : List ℕ) → ((k : ℕ) → get_or plan k 0 < 256)
    → judgement_in mode s (take (deciding_in mode) plan) ≡ judgement_in mode s plan
plan-judgement-decided-in mode s plan bytes =
    decided-by (deciding_in mode) (judgement_in mode s) _ s plan (λ no. judgement-refused s no mode)
    (λ ok long. same-judgement mode s ok plan bytes (deciding_in mode) (omega (arith, deciding-is mode)) long)

pub plan-decided : (s plan : List ℕ) → ((k : ℕ) → get_or plan k 0 < 256) → judge s (take deciding_plan plan) ≡ judge s plan
plan-decided = plan-decided-in Packets

pub plan-judgement-decided : (s plan : List ℕ) → ((k : ℕ) → get_or plan k 0 < 256) → judgement s (take deciding_plan plan) ≡ judgement s plan
plan-judgement-decided = plan-judgement-decided-in Packets

pub merged-plan-decided : (s plan : List ℕ) → ((k : ℕ) → get_or plan k 0 < 256) → judge_in Merged s (take deciding_merged plan) ≡ judge_in Merged s plan
merged-plan-decided = plan-decided-in Merged

pub merged-plan-judgement-decided : (s plan : List ℕ) → ((k : ℕ) → get_or plan k 0 < 256)
    → judgement_in Merged s (take deciding_merged plan) ≡ judgement_in Merged s plan
merged-plan-judgement-decided = plan-judgement-decided-in Merged
