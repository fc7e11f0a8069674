-- Merged readings: never more slots than colours times depth. A probe all of whose children have sent when a round begins has sent when it ends, at the latest in its own
-- colour's turn; so after each round one level more has sent, from the deepest up, and after as many rounds as there are levels all have.
use mathlib.Core.Path.{◌≡◌, ap, ◌∙◌}
use mathlib.Core.Bool.{Bool, true, false, cond}
use mathlib.Core.List.{List}
use mathlib.Core.Logic.{⊎_elim}
use Prim.Native.Nat.{ℕ, zero, suc, ◌+◌, ◌-◌, ◌*◌, ◌≤◌, ◌<◌, min}
use native.Mathlib.Omega.{arith}
use lib.Dec.{eqb}
use lib.ListN.{length, get_or}
use borrow.Author.Tests.{eqb-true, eqb-false, ne_eqb}
use Rattle.meaning.specs.declared.Mode.TheVariants.{Merged}
use Rattle.meaning.specs.Words.{places}
use Rattle.meaning.specs.Yard.{is_probe}
use Rattle.meaning.specs.Sheet.{probe_count, parent_of, level_of}
use Rattle.meaning.specs.Colour.{colours_used, probe_colours, depth}
use Rattle.meaning.specs.Rounds.{Progress, ready, first_in, merged, slots_in}
use Rattle.meaning.specs.Answer.{is_accepted, sheet_test}
use Rattle.laws.proofs.Turns.{sum-least}
use Rattle.laws.proofs.Walk.{probe-least, probe-most, probe-yes, probe-at}
use Rattle.laws.proofs.Slots.{true-or-false}
use Rattle.laws.proofs.Grounds.{level-up, level-least}
use Rattle.laws.proofs.Levels.{level-deep}
use Rattle.laws.proofs.Children.{child, no-child, of-no-child}
use Rattle.laws.proofs.MergedHeld.{waited-ready}
use Rattle.limits.specs.Sent.{inflow, sent}
use Rattle.limits.proofs.Sums.{sum-zero}
use Rattle.limits.proofs.Serving.{Kept, turn, after, more-sent, slots-most}
use Rattle.limits.proofs.MostByProbe.{by, serves-in}
use Rattle.limits.proofs.AcceptedYard as Yard

module _ (s : List ℕ) (ok : is_accepted (sheet_test s) ≡ true) where
  abbrev Going : Progress → Type 0
  Going now = Kept Merged s ok (by s ok) now

  -- after r rounds
  abbrev then : ℕ → Progress
  then r = after Merged s ok (by s ok) r

  -- no reading comes to a probe, since each that is sent is counted at the gateway
  none-comes : (many : ℕ → ℕ) (v : ℕ) → 2 ≤ v → inflow (probe_count s) (λ _. 1) many v ≡ 0
  unfolding inflow
  none-comes many v h =
      sum-zero (probe_count s) (λ k. cond (eqb 1 v) (many (k + 2)) 0) (λ k _. ap (λ (b : Bool). cond b (many (k + 2)) 0) (ne_eqb 1 v (λ e. omega arith)))

  -- so a probe has sent once, or still holds its reading
  once : (now : Progress) → Going now → (v : ℕ) → is_probe (probe_count s) v ≡ true → get_or now.held v 0 + sent now.slots v ≡ 1
  once now kept v h =
      let least = probe-least (probe_count s) v h in
      let node : v < places = omega (arith, probe-most (probe_count s) v h, Yard.few s ok) in
      let own : first_in Merged s v ≡ 1 = ap (λ (b : Bool). cond b 1 0) h in
      omega (arith, kept.balance v node, own, none-comes (sent now.slots) v least)

  -- some child of v has not sent
  abbrev late : Progress → ℕ → Bool
  late now v = child (probe_count s) (parent_of s) (λ c. eqb (sent now.slots c) 0) v

  -- 1 where all children of v have sent
  heard : ℕ → Progress → ℕ
  heard v now = cond (late now v) 0 1

  heard_all : (v : ℕ) (now : Progress) → late now v ≡ false → heard v now ≡ 1
  unfolding heard
  heard_all v now none = ap (λ (b : Bool). cond b 0 1) none

  heard-not : (v : ℕ) (now : Progress) → late now v ≡ true → heard v now ≡ 0
  unfolding heard
  heard-not v now one = ap (λ (b : Bool). cond b 0 1) one

  -- who has sent stays so
  heard-grows : (v c : ℕ) (now : Progress) → heard v now ≤ heard v (turn Merged s ok (by s ok) c now)
  heard-grows v c now =
      let next : Progress = turn Merged s ok (by s ok) c now in
      ⊎_elim (λ one. omega (arith, heard-not v now one))
      (λ none.
      let none-now = of-no-child (probe_count s) (parent_of s) (λ u. eqb (sent now.slots u) 0) v none in
      let none-next = no-child (probe_count s) (parent_of s) (λ u. eqb (sent next.slots u) 0) v
      (λ u h its.
      let did = eqb-false (sent now.slots u) 0 (none-now u h its) in
      ne_eqb (sent next.slots u) 0 (λ e. did (omega (arith, e, more-sent Merged s ok (by s ok) c now u)))) in
      omega (arith, heard_all v now none, heard_all v next none-next))
      (true-or-false (late now v))

  module _ (v : ℕ) (h : is_probe (probe_count s) v ≡ true) where
    -- a probe that has not sent and all of whose children have is ready
    is-ready : (now : Progress) → Going now → late now v ≡ false → sent now.slots v ≡ 0 → 1 ≤ get_or (ready (probe_count s) (parent_of s) now.held) v 0
    is-ready now kept none unsent =
        let all-did = of-no-child (probe_count s) (parent_of s) (λ u. eqb (sent now.slots u) 0) v none in
        waited-ready (probe_count s) (parent_of s) now.held v (omega (arith, probe-most (probe_count s) v h, Yard.few s ok))
        (record {
          has = omega (arith, once now kept v h);
          sent = λ c hc its. omega (arith, once now kept c hc, eqb-false (sent now.slots c) 0 (all-did c hc its));
        })

    heard-ready : (now : Progress) → Going now → 0 + heard v now ≤ get_or (ready (probe_count s) (parent_of s) now.held) v 0 + sent now.slots v
    heard-ready now kept =
        ⊎_elim (λ one. omega (arith, heard-not v now one))
        (λ none.
        ⊎_elim (λ e. omega (arith, heard_all v now none, is-ready now kept none (eqb-true (sent now.slots v) 0 e)))
        (λ e. omega (arith, heard_all v now none, eqb-false (sent now.slots v) 0 e))
        (true-or-false (eqb (sent now.slots v) 0)))
        (true-or-false (late now v))

    serves-merged : (r : ℕ) → min (sent (then r).slots v + 1) (0 + heard v (then r)) ≤ sent (then (suc r)).slots v
    serves-merged = serves-in s ok v h Merged 0 (heard v) heard-ready (heard-grows v)

  -- after r rounds the r deepest levels have sent
  sent-by-level : (r v : ℕ) → is_probe (probe_count s) v ≡ true → depth s + 1 ≤ level_of s v + r → 1 ≤ sent (then r).slots v
  sent-by-level zero v h near =
      let at = probe-at (probe_count s) v h in
      absurd (omega (arith, near, level-deep s ok (v - 2) at.0, ap (level_of s) at.1))
  sent-by-level (suc r) v h near =
      let none = no-child (probe_count s) (parent_of s) (λ c. eqb (sent (then r).slots c) 0) v
      (λ c hc its.
      let deeper = level-up s ok c hc ∙ ap (λ (u : ℕ). suc (level_of s u)) its in
      let did = sent-by-level r c hc (omega (arith, deeper)) in
      ne_eqb (sent (then r).slots c) 0 (λ e. omega (arith, did, e))) in
      omega (arith, serves-merged v h r, heard_all v (then r) none)

  pub merged-most : length (slots_in Merged s (merged s)) ≤ colours_used (probe_colours s) * depth s
  unfolding slots_in merged inflow
  merged-most =
      slots-most Merged s ok (by s ok) (depth s) (probe_count s)
      (sum-least (probe_count s) (λ k. first_in Merged s (k + 2)) (λ k. sent (then (depth s)).slots (k + 2))
      (λ k hk.
      let probe = probe-yes (probe_count s) (k + 2) (omega arith) (omega arith) in
      let own : first_in Merged s (k + 2) ≡ 1 = ap (λ (b : Bool). cond b 1 0) probe in
      omega (arith, own, sent-by-level (depth s) (k + 2) probe (omega (arith, level-least s ok (k + 2) probe)))))
