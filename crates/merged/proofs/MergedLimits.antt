-- The limits hold of the telephone's answer on merged readings: neither room nor count refuses an accepted sheet, so that its answer is whole; every probe sends after
-- its children, so that no plan has fewer slots than levels; and ours has at most a slot a probe, and at most one a colour for each level.
use mathlib.Core.Path.{◌≡◌, sym, ap, ◌∙◌, subst}
use mathlib.Core.Bool.{true, false}
use mathlib.Core.List.{List}
use mathlib.Core.Logic.{⊎_elim}
use Prim.Native.Nat.{ℕ, ◌≤◌, ◌<◌}
use native.Mathlib.Omega.{arith}
use lib.ListN.{length, get_or, take}
use Rattle.meaning.specs.declared.Mode.TheVariants.{Merged}
use Rattle.meaning.specs.declared.Verdict.{Verdict}
use Rattle.meaning.specs.declared.MergedTold.{MergedTold}
use Rattle.meaning.specs.Sheet.{deciding_sheet}
use Rattle.meaning.specs.Plan.{plan_bytes, any_merged}
use Rattle.meaning.specs.Colour.{colours_used, probe_colours, depth}
use Rattle.meaning.specs.Rounds.{merged, slots_in}
use Rattle.meaning.specs.Answer.{accepted, is_accepted, sheet_test, plan_test_in}
use Rattle.meaning.specs.Judge.{judge_in}
use Rattle.meaning.specs.Merged.{merged_most, merged_asked}
use Rattle.laws.proofs.Slots.{true-or-false}
use Rattle.laws.proofs.Grounds.{few-probes}
use Rattle.laws.proofs.PlanMade.{room-passes}
use Rattle.laws.proofs.Telling.{told-plan, told-refusal}
use Rattle.laws.proofs.Own.{OwnPlan, merged_plan}
use Rattle.laws.proofs.MergedExact.{good-merged, merged-passed-good, merged-good-passed}
use Rattle.laws.proofs.MergedDepth.{merged-depth}
use Rattle.limits.proofs.Deciding.{decided}
use Rattle.limits.proofs.MergedMost.{merged-most}
use Rattle.merged.proofs.MergedAnswer.{whole, nothing, asked-tells}

-- a plan that the judge of merged readings passes has at least as many slots as its yard has levels; its first two elements, which say how many, are bytes
pub passed-depth : (s plan : List ℕ) → get_or plan 0 0 < 256 → get_or plan 1 0 < 256 → is_accepted (judge_in Merged s plan).outcome ≡ true
    → depth s ≤ (judge_in Merged s plan).slots
passed-depth s plan high low passed =
    let good = merged-passed-good s plan high low passed in
    omega (arith, merged-depth s plan good, ap (λ (v : Verdict). v.slots) (merged-good-passed s plan good))

module _ (s : List ℕ) where
  abbrev slots : List (List ℕ)
  slots = slots_in Merged s (merged s)

  -- an accepted sheet
  module _ (ok : is_accepted (sheet_test s) ≡ true) where
    own : OwnPlan Merged s (merged s)
    own = merged_plan s ok

    tests-pass : plan_test_in Merged s any_merged slots ≡ accepted
    tests-pass =
        let few = few-probes s ok in
        room-passes Merged merged s any_merged ok (omega arith) (omega (arith, own.few))

    -- "Merged readings", on the telephone: it is answered, and never by 9 or 10
    pub answered : merged_asked s
        ≡ record { outcome = accepted; least = depth s; ours = length (slots_in Merged s (merged s)); most = merged_most s (colours_used (probe_colours s)) }
    unfolding merged
    answered = asked-tells s ∙ told-plan Merged merged s any_merged (whole s) nothing tests-pass

    deep-slots : depth s ≤ length slots
    deep-slots =
        let good = good-merged s (plan_bytes slots) own.good in
        omega (
          arith,
          merged-depth s (plan_bytes slots) good,
          ap (λ (v : Verdict). v.slots) (merged-good-passed s (plan_bytes slots) good),
          ap (λ (v : Verdict). v.slots) own.passed,
        )

  -- a refused sheet
  module _ (refused : is_accepted (sheet_test s) ≡ false) where
    -- on refusal the sheet's own number and place are told, and three zeros
    pub not-answered : merged_asked s ≡ record { outcome = sheet_test s; least = 0; ours = 0; most = 0 }
    not-answered = asked-tells s ∙ told-refusal Merged merged s any_merged (whole s) nothing refused

  -- what holds of both answers holds of every sheet
  by_answer : (P : MergedTold → Type 0)
      → (is_accepted (sheet_test s) ≡ true → P (record { outcome = accepted; least = depth s; ours = length slots; most = merged_most s (colours_used (probe_colours s)) }))
      → (is_accepted (sheet_test s) ≡ false → P (record { outcome = sheet_test s; least = 0; ours = 0; most = 0 })) → P (merged_asked s)
  by_answer P whole-told nothing-told =
      ⊎_elim (λ ok. subst P (sym (answered ok)) (whole-told ok)) (λ refused. subst P (sym (not-answered refused)) (nothing-told refused))
      (true-or-false (is_accepted (sheet_test s)))

  -- at least is no more than ours ..
  pub least-ours : (merged_asked s).least ≤ (merged_asked s).ours
  least-ours = by_answer (λ t. t.least ≤ t.ours) deep-slots (λ _. omega arith)

  -- .. and ours no more than at most, by both limits
  pub ours-most : (merged_asked s).ours ≤ (merged_asked s).most
  ours-most = by_answer (λ t. t.ours ≤ t.most) (λ ok. omega (arith, merged-most s ok, (own ok).few)) (λ _. omega arith)

  -- no plan that has at least as many slots as levels, as each that passes has, has fewer than at least
  pub least-any : (plan : List ℕ) → depth s ≤ (judge_in Merged s plan).slots → (merged_asked s).least ≤ (judge_in Merged s plan).slots
  least-any plan deep = by_answer (λ t. t.least ≤ (judge_in Merged s plan).slots) (λ _. deep) (λ _. omega arith)

-- "The lister": the bytes that decide every other answer decide this one too
pub told-decided : (s : List ℕ) → merged_asked (take deciding_sheet s) ≡ merged_asked s
told-decided = decided merged_asked (λ o. record { outcome = o; least = 0; ours = 0; most = 0 }) not-answered
