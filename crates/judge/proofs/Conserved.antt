-- RULES, "Numbers returned": after each slot the packets in probes and gateway together equal the sheet's total, whatever the plan. Each turn keeps them,
-- so all turns do; and what the nodes hold before the first slot is what the probes have.
use mathlib.Core.Path.{◌≡◌, ◌∙◌}
use mathlib.Core.Bool.{Bool, true, false, cond}
use mathlib.Core.List.{List}
use Prim.Native.Nat.{ℕ, ◌+◌, ◌≤◌, ◌<◌}
use native.Mathlib.Omega.{arith}
use lib.ListN.{length}
use Rattle.meaning.specs.declared.Mode.{Mode}
use Rattle.meaning.specs.declared.Mode.TheVariants.{Packets}
use Rattle.meaning.specs.Words.{tab, places}
use Rattle.meaning.specs.Yard.{is_probe}
use Rattle.meaning.specs.Sheet.{probe_count, parent_of, packets_of, all_packets}
use Rattle.meaning.specs.Conflict.{entry, conflict_table}
use Rattle.meaning.specs.Rounds.{goes_in}
use Rattle.meaning.specs.Answer.{is_accepted, sheet_test}
use Rattle.meaning.specs.Judge.{Judging, slot_judged, slots_judged}
use Rattle.laws.proofs.Turns.{for_each-keeps, length-tab}
use Rattle.laws.proofs.Moving.{weigh}
use Rattle.laws.proofs.Grounds.{packets-first, few-probes, few-packets, parent-node}
use Rattle.judge.specs.SlotTurn.{judging_from}
use Rattle.judge.proofs.SlotTurn.{turn-long, turn-kept}

-- what every turn keeps, of packets and of merged readings: a list by node, and as many together
pub record Kept (packets : ℕ) (now : Judging) : Type 0 where
  pub long : length now.held ≡ places
  pub total : weigh (λ _. 1) now.held ≡ packets

module _ (mode : Mode) (p : ℕ) (parent : ℕ → ℕ) (relation : ℕ → ℕ → Bool) (plan : List ℕ) (few : p ≤ 63)
    (parents : (v : ℕ) → is_probe p v ≡ true → goes_in mode parent v < places) (packets : ℕ) (least : packets ≤ 945) where
  pub kept_on : (place : ℕ) (now : Judging) → Kept packets now → Kept packets (slot_judged mode p parent relation plan place now)
  kept_on place now so =
      record {
        long = turn-long mode p parent relation plan place now so.long;
        total =
            turn-kept mode p parent relation plan place now
            (record { few = few; parents = parents; long = so.long; packets = omega (arith, so.total) })
            ∙ so.total;
      }

  pub kept-all : (many : ℕ) (start : Judging) → Kept packets start → Kept packets (slots_judged mode p parent relation plan many start)
  unfolding slots_judged
  kept-all many start so =
      for_each-keeps (Kept packets) many (λ k now. cond (is_accepted now.outcome) (slot_judged mode p parent relation plan (k + 1) now) now) start so
      (λ k h now kept. step k now kept (is_accepted now.outcome))
    where
      step : (k : ℕ) (now : Judging) → Kept packets now → (b : Bool) → Kept packets (cond b (slot_judged mode p parent relation plan (k + 1) now) now)
      step k now kept true = kept_on (k + 1) now kept
      step k now kept false = kept

-- all packets that the nodes hold after the first k slots of a plan, up to the first that is refused
abbrev pub packets_after : (s plan : List ℕ) → (k : ℕ) → ℕ
packets_after s plan k =
    weigh (λ _. 1) (slots_judged Packets (probe_count s) (parent_of s) (entry (conflict_table s)) plan k (judging_from 2 (tab places (packets_of s)))).held

-- RULES, of an accepted sheet and any plan
pub conserved : (s plan : List ℕ) (k : ℕ) → is_accepted (sheet_test s) ≡ true → packets_after s plan k ≡ all_packets s
conserved s plan k h =
    let few = few-probes s h in
    let all = packets-first s few in
    (kept-all Packets (probe_count s) (parent_of s) (entry (conflict_table s)) plan few (parent-node s h) (all_packets s) (omega (arith, all, few-packets s h)) k
    (judging_from 2 (tab places (packets_of s)))
    (record { long = length-tab places (packets_of s); total = all })).total
