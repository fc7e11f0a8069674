-- The packets of all branches together are the hops. By the balance of levels: each branch times its level is its top's own packets times that level and
-- what the children have times that level, and a child's level is one more; summed over the probes, what is left is each branch once.
use mathlib.Core.Path.{◌≡◌, refl, sym, ap, ◌∙◌}
use mathlib.Core.Bool.{Bool, true, false, cond}
use mathlib.Core.List.{List}
use Prim.Native.Nat.{ℕ, suc, ◌+◌, ◌*◌}
use native.Mathlib.Nat.{mul-zero}
use native.Mathlib.Omega.{arith}
use lib.Dec.{eqb}
use borrow.Author.Tests.{eqb-true}
use Rattle.meaning.specs.Words.{sum_probes}
use Rattle.meaning.specs.Yard.{is_probe, branch_packets, climb}
use Rattle.meaning.specs.Sheet.{probe_count, parent_of, packets_of, level_of, hops, all_packets}
use Rattle.meaning.specs.Answer.{is_accepted, sheet_test}
use Rattle.laws.proofs.Turns.{sum_same}
use Rattle.laws.proofs.Walk.{probe-yes, probe-below}
use Rattle.laws.proofs.Grounds.{level-up}
use Rattle.limits.specs.Sent.{inflow}
use Rattle.limits.proofs.Sums.{sum-add, sum-times}
use Rattle.limits.proofs.Sending.{inflow-same, inflow-all}
use Rattle.limits.proofs.Branch.{branch-own, branch-all}
use Rattle.limits.proofs.AcceptedYard as Yard

inflow-times : (p : ℕ) (parent : ℕ → ℕ) (w : ℕ) (many : ℕ → ℕ) (v : ℕ) → inflow p parent (λ c. w * many c) v ≡ w * inflow p parent many v
unfolding inflow
inflow-times p parent w many v =
    sum_same p (λ k. cond (eqb (parent (k + 2)) v) (w * many (k + 2)) 0) (λ k. w * cond (eqb (parent (k + 2)) v) (many (k + 2)) 0)
    (λ k _. go (eqb (parent (k + 2)) v) (many (k + 2)))
    ∙ sum-times p w (λ k. cond (eqb (parent (k + 2)) v) (many (k + 2)) 0)
  where
    go : (b : Bool) (n : ℕ) → cond b (w * n) 0 ≡ w * cond b n 0
    go true n = refl
    go false n = sym (mul-zero w)

module _ (s : List ℕ) (ok : is_accepted (sheet_test s) ≡ true) where
  abbrev branch : ℕ → ℕ
  branch = branch_packets (probe_count s) (parent_of s) (packets_of s)

  abbrev flow : (ℕ → ℕ) → ℕ → ℕ
  flow = inflow (probe_count s) (parent_of s)

  -- a branch times the level of its top's parent
  abbrev up : ℕ → ℕ
  up c = level_of s (parent_of s c) * branch c

  flow-up : (v : ℕ) → flow up v ≡ level_of s v * flow branch v
  flow-up v =
      inflow-same (probe_count s) (parent_of s) up (λ c. level_of s v * branch c) v
      (λ k _ e. ap (λ (u : ℕ). level_of s u * branch (k + 2)) (eqb-true (parent_of s (k + 2)) v e))
      ∙ inflow-times (probe_count s) (parent_of s) (level_of s v) branch v

  gateway-level : level_of s 1 ≡ 0
  unfolding level_of
  gateway-level = ap (λ (b : Bool). cond b (climb (parent_of s) (probe_count s) 1) 0) (probe-below (probe_count s) 1 (omega arith))

  -- the balance of one probe
  balance : (v : ℕ) → is_probe (probe_count s) v ≡ true → branch v + up v ≡ packets_of s v * level_of s v + flow up v
  balance v h =
      let own : level_of s v * branch v ≡ level_of s v * (packets_of s v + flow branch v) =
      ap (λ (n : ℕ). level_of s v * n) (branch-own (probe_count s) (parent_of s) (Yard.rooted s ok) (packets_of s) v h) in
      let step : level_of s v * branch v ≡ suc (level_of s (parent_of s v)) * branch v = ap (λ (n : ℕ). n * branch v) (level-up s ok v h) in
      omega (arith, own, step, flow-up v)

  -- each packet counts once for each probe on its walk
  pub branches-hops : sum_probes (probe_count s) branch ≡ hops s
  unfolding hops
  branches-hops =
      let gateway : flow up 1 ≡ 0 * flow branch 1 = flow-up 1 ∙ ap (λ (n : ℕ). n * flow branch 1) gateway-level in
      omega (
        arith,
        sum-add (probe_count s) (λ k. branch (k + 2)) (λ k. up (k + 2)),
        sum_same (probe_count s) (λ k. branch (k + 2) + up (k + 2)) (λ k. packets_of s (k + 2) * level_of s (k + 2) + flow up (k + 2))
            (λ k hk. balance (k + 2) (probe-yes (probe_count s) (k + 2) (omega arith) (omega arith))),
        sum-add (probe_count s) (λ k. packets_of s (k + 2) * level_of s (k + 2)) (λ k. flow up (k + 2)),
        inflow-all (probe_count s) (parent_of s) up (Yard.inside s ok),
        gateway,
      )

  -- what the children of all probes have together: all hops but the last of each packet
  pub inflows-hops : sum_probes (probe_count s) (inflow (probe_count s) (parent_of s) branch) + all_packets s ≡ hops s
  unfolding all_packets
  inflows-hops =
      omega (
        arith,
        inflow-all (probe_count s) (parent_of s) branch (Yard.inside s ok),
        branch-all (probe_count s) (parent_of s) (Yard.rooted s ok) (packets_of s),
        branches-hops,
      )
