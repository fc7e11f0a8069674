-- The same probes hung otherwise: what is told of a sheet's own packets is told of every sheet that has them, since worst and best go by these alone.
use mathlib.Core.Path.{◌≡◌, ap₂, fun_ext}
use Prim.Native.Nat.{ℕ, ◌≤◌}
use native.Mathlib.Omega.{arith}
use lib.ListN.{length}
use Rattle.meaning.specs.Words.{Bytes, sum_probes}
use Rattle.meaning.specs.Sheet.{packets_of, all_packets}
use Rattle.meaning.specs.Judge.{judge}
use Rattle.limits.proofs.Fewest.{slots-least}
use Rattle.arrangement.specs.Arranged.{worst_slots_of, worst_slots, worst_sheet, best_sheet}
use Rattle.arrangement.proofs.AtWorst.{by-probe-worst, by-level-worst}
use Rattle.arrangement.proofs.NoIdle.{Full, full-worst}
use Rattle.arrangement.proofs.WorstSheet.{worst-probes, worst-packets, worst-accepted, worst-slots, worst-any}
use Rattle.arrangement.proofs.Star.{best-probes, best-packets, best-accepted, best-slots}
use Rattle.meaning.specs.Plan.{slots_of_plan}
use Rattle.promises.specs.Answers.{Planner, probe, level, slots_by, answer, Accepted, Room, Passes, SameProbes}
use Rattle.promises.proofs.Planning.{plans}

module _ (s other : Bytes) (same : SameProbes s other) where
  same-packets : packets_of other ≡ packets_of s
  same-packets = fun_ext same.1

  pub same-worst : worst_slots other ≡ worst_slots s
  unfolding worst_slots
  same-worst = ap₂ worst_slots_of same.0 same-packets

  pub same-all : all_packets other ≡ all_packets s
  unfolding all_packets
  same-all = ap₂ (λ (p : ℕ) (f : ℕ → ℕ). sum_probes p f) same.0 same-packets

  ours : (planner : Planner) → Accepted other → length (slots_by planner other) ≤ worst_slots other
  ours probe ok = by-probe-worst other ok
  ours level ok = by-level-worst other ok

  pub no-worse-ours : (planner : Planner) (buffer : Bytes) → Accepted other → Room other buffer → (answer planner other buffer).slots ≤ worst_slots s
  no-worse-ours planner buffer ok room = rw (plans planner other buffer ok room).0 (omega (arith, ours planner ok, same-worst))

  pub no-worse-full : (plan : Bytes) → Passes other plan → Full (slots_of_plan plan) → (judge other plan).slots ≤ worst_slots s
  no-worse-full plan passed full = omega (arith, full-worst other plan passed full, same-worst)

  pub no-better-any : (plan : Bytes) → Passes other plan → all_packets s ≤ (judge other plan).slots
  no-better-any plan passed = omega (arith, slots-least other plan passed, same-all)

module _ (s : Bytes) (ok : Accepted s) where
  pub hangs-worst : Accepted (worst_sheet s) × SameProbes s (worst_sheet s) × (length (slots_by probe (worst_sheet s)) ≡ worst_slots s)
  hangs-worst = (worst-accepted s ok, (worst-probes s, worst-packets s), worst-slots s ok)

  pub worst-for-all : (plan : Bytes) → Passes (worst_sheet s) plan → worst_slots s ≤ (judge (worst_sheet s) plan).slots
  worst-for-all = worst-any s ok

  pub hangs-best : Accepted (best_sheet s) × SameProbes s (best_sheet s) × (length (slots_by probe (best_sheet s)) ≡ all_packets s)
  hangs-best = (best-accepted s ok, (best-probes s, best-packets s), best-slots s ok)
