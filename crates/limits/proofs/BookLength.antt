-- In a plan that the judge passes, each probe sends in as many slots as its branch has packets, and hears its children in as many as their branches have
-- together. Each probe alone, and its children, conflict pairwise: so their slots are their sendings; summed over the probes these are hops.
use mathlib.Core.Path.{◌≡◌, sym, ◌∙◌}
use mathlib.Core.Bool.{true}
use mathlib.Core.List.{List}
use Prim.Native.Nat.{ℕ, ◌+◌, ◌*◌}
use native.Mathlib.Omega.{arith}
use lib.Dec.{eqb}
use lib.ListN.{length}
use borrow.Author.Tests.{eqb-true}
use Rattle.meaning.specs.Words.{sum_probes}
use Rattle.meaning.specs.Yard.{is_probe, branch_packets}
use Rattle.meaning.specs.Sheet.{probe_count, parent_of, packets_of, hops, all_packets}
use Rattle.meaning.specs.Answer.{is_accepted}
use Rattle.meaning.specs.Judge.{judge}
use Rattle.meaning.specs.Book.{sends, hears}
use Rattle.meaning.specs.Legal.{held_first}
use Rattle.laws.proofs.Turns.{sum_same, sum-constant}
use Rattle.laws.proofs.Walk.{probe-yes}
use Rattle.limits.specs.Sent.{inflow, sent}
use Rattle.limits.proofs.Sums.{sum-add, sum-times, together-itself}
use Rattle.meaning.specs.Plan.{slots_of_plan}
use Rattle.limits.proofs.PlanRuns.{passed-ran}
use Rattle.limits.proofs.SentByBranch.{sent-by-branch}
use Rattle.limits.proofs.Exclusive.{Exclusive}
use Rattle.limits.proofs.Fewest.{children-exclusive, children-send}
use Rattle.limits.proofs.BranchesHops.{branches-hops, inflows-hops}
use Rattle.limits.proofs.SlotsOfSome.{slots-of-some}

pub alone-exclusive : (s : List ℕ) (v : ℕ) → Exclusive s (λ u. eqb u v)
alone-exclusive s v x y hx hy other ex ey = absurd (other (eqb-true x v ex ∙ sym (eqb-true y v ey)))

module _ (s plan : List ℕ) (h : is_accepted (judge s plan).outcome ≡ true) where
  abbrev branch : ℕ → ℕ
  branch = branch_packets (probe_count s) (parent_of s) (packets_of s)

  pub sends-length : (v : ℕ) → is_probe (probe_count s) v ≡ true → length (sends plan v) ≡ branch v
  sends-length v hv =
      let ran = passed-ran s plan h in
      slots-of-some s ran.sheet (λ u. eqb u v) (alone-exclusive s v) (held_first s) 1 (slots_of_plan plan) ran.runs
      ∙ together-itself (probe_count s) (sent (slots_of_plan plan)) v hv
      ∙ sent-by-branch s plan h v hv

  -- of any node, also of the gateway
  pub hears-length : (v : ℕ) → length (hears s plan v) ≡ inflow (probe_count s) (parent_of s) branch v
  unfolding inflow
  hears-length v =
      let ran = passed-ran s plan h in
      slots-of-some s ran.sheet (λ u. eqb (parent_of s u) v) (children-exclusive s ran.sheet v) (held_first s) 1 (slots_of_plan plan) ran.runs
      ∙ children-send s plan h v

  -- four bytes of each probe, and two for each slot in which it wakes
  pub book-length : sum_probes (probe_count s) (λ v. 4 + 2 * length (sends plan v) + 2 * length (hears s plan v)) + 2 * all_packets s
      ≡ 4 * probe_count s + 4 * hops s
  book-length =
      let ok = (passed-ran s plan h).sheet in
      let flow : ℕ → ℕ = inflow (probe_count s) (parent_of s) branch in
      omega (
        arith,
        sum_same (probe_count s) (λ k. 4 + 2 * length (sends plan (k + 2)) + 2 * length (hears s plan (k + 2)))
            (λ k. 4 + 2 * branch (k + 2) + 2 * flow (k + 2))
            (λ k hk. omega (arith, sends-length (k + 2) (probe-yes (probe_count s) (k + 2) (omega arith) (omega arith)), hears-length (k + 2))),
        sum-add (probe_count s) (λ k. 4 + 2 * branch (k + 2)) (λ k. 2 * flow (k + 2)),
        sum-add (probe_count s) (λ _. 4) (λ k. 2 * branch (k + 2)),
        sum-constant (probe_count s) 4,
        sum-times (probe_count s) 2 (λ k. branch (k + 2)),
        sum-times (probe_count s) 2 (λ k. flow (k + 2)),
        branches-hops s ok,
        inflows-hops s ok,
      )
