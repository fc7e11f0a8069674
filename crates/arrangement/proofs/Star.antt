-- The best sheet is accepted, with the same probes and packets: it is written as a star, where every probe hangs at level 1, so that its hops are its packets.
-- Its plan has no more slots than hops, being our own, and no fewer than packets, being passed.
use mathlib.Core.Path.{◌≡◌, refl, ap, ◌∙◌, sym, subst}
use mathlib.Core.Bool.{true}
use mathlib.Core.List.{List, [], ◌∷◌, ◌++◌, append-nil}
use Prim.Native.Nat.{ℕ, ◌+◌, ◌-◌, ◌*◌, min}
use native.Mathlib.Omega.{arith}
use lib.ListN.{length}
use Rattle.meaning.specs.declared.Mode.TheVariants.{Packets}
use Rattle.meaning.specs.declared.Verdict.{Verdict}
use Rattle.meaning.specs.Words.{for_each, sum_probes}
use Rattle.meaning.specs.Sheet.{probe_count, packets_of, hops, all_packets}
use Rattle.meaning.specs.Plan.{two_bytes, plan_bytes}
use Rattle.meaning.specs.Rounds.{Way, by_probe, by_level, slots_of}
use Rattle.meaning.specs.Answer.{is_accepted, in_order, sheet_test}
use Rattle.laws.proofs.Turns.{sum_same}
use Rattle.laws.proofs.Walk.{probe-least, probe-most}
use Rattle.laws.proofs.Accepted.{accepted-yard}
use Rattle.laws.proofs.Grounds.{few-probes}
use Rattle.laws.proofs.Own.{OwnPlan, by-probe-plan, by-level-plan}
use Rattle.limits.proofs.Fewest.{slots-least}
use Rattle.arrangement.specs.Arranged.{records, best_sheet}
use Rattle.arrangement.proofs.Written.{written, own-packets}
use Rattle.arrangement.proofs.Hung.{Hangs, hung-ok, hung-hops}

-- a plan of our own whose hops are the packets has as many slots
as-packets : (s : List ℕ) (way : Way) → OwnPlan Packets s way → hops s ≡ all_packets s → length (slots_of s way) ≡ all_packets s
as-packets s way own e =
    omega (
      arith,
      own.few,
      slots-least s (plan_bytes (slots_of s way)) (ap (λ (v : Verdict). is_accepted v.outcome) own.passed),
      ap (λ (v : Verdict). v.slots) own.passed,
    )

module _ (s : List ℕ) where
  abbrev p : ℕ
  p = probe_count s

  -- the best sheet as it is written, and the level of each of its nodes
  abbrev star : List ℕ
  star = written p (λ _. 1) (packets_of s) 0 []

  abbrev level : ℕ → ℕ
  level v = min (v - 1) 1

  is-star : star ≡ best_sheet s
  unfolding best_sheet
  is-star = append-nil ((p ∷ records p (λ _. 1) (packets_of s)) ++ two_bytes 0)

  pub best-probes : probe_count (best_sheet s) ≡ probe_count s
  unfolding best_sheet
  best-probes = refl

  pub best-packets : (v : ℕ) → packets_of (best_sheet s) v ≡ packets_of s v
  best-packets v = subst (λ (b : List ℕ). packets_of b v ≡ packets_of s v) is-star (own-packets s (λ _. 1) 0 [] v)

  pub best-all : all_packets (best_sheet s) ≡ all_packets s
  unfolding all_packets
  best-all =
      ap (λ (n : ℕ). sum_probes n (packets_of (best_sheet s))) best-probes
      ∙ sum_same p (λ k. packets_of (best_sheet s) (k + 2)) (λ k. packets_of s (k + 2)) (λ k _. best-packets (k + 2))

  module _ (ok : is_accepted (sheet_test s) ≡ true) where
    hangs : Hangs p (λ _. 1) (packets_of s) level
    hangs =
        record {
          parent_least = λ v h. omega arith;
          parent_most = λ v h. omega arith;
          packets_most = λ v h. ((accepted-yard s ok).probe v h).packets_most;
          gateway = refl;
          up = λ v h. omega (arith, probe-least p v h);
          level_most = λ v h. omega (arith, probe-least p v h, probe-most p v h);
        }

    star-accepted : is_accepted (sheet_test star) ≡ true
    unfolding in_order for_each
    star-accepted = hung-ok p (λ _. 1) (packets_of s) level hangs 0 [] (few-probes s ok) (omega arith) refl refl

    pub best-accepted : is_accepted (sheet_test (best_sheet s)) ≡ true
    best-accepted = subst (λ (b : List ℕ). is_accepted (sheet_test b) ≡ true) is-star star-accepted

    pub best-hops : hops (best_sheet s) ≡ all_packets s
    unfolding all_packets
    best-hops =
        ap hops (sym is-star) ∙ hung-hops p (λ _. 1) (packets_of s) level hangs 0 []
        ∙ sum_same p (λ k. packets_of s (k + 2) * level (k + 2)) (λ k. packets_of s (k + 2))
        (λ k _. let first : level (k + 2) ≡ 1 = omega arith in omega (arith, ap (λ (l : ℕ). packets_of s (k + 2) * l) first))

    -- its plans, by probe and by level, have as many slots as the sheet has packets
    pub best-slots : length (slots_of (best_sheet s) (by_probe (best_sheet s))) ≡ all_packets s
    best-slots =
        as-packets (best_sheet s) (by_probe (best_sheet s)) (by-probe-plan (best_sheet s) best-accepted) (best-hops ∙ sym best-all) ∙ best-all

    pub best-slots-by-level : length (slots_of (best_sheet s) (by_level (best_sheet s))) ≡ all_packets s
    best-slots-by-level =
        as-packets (best_sheet s) (by_level (best_sheet s)) (by-level-plan (best_sheet s) best-accepted) (best-hops ∙ sym best-all) ∙ best-all
