-- The answer for a sheet, by the planner's: a refusal's, or what the code counts in the tree that it read, which is what the sheet says.
use mathlib.Core.Path.{◌≡◌, refl, sym, ap, ap₂, ◌∙◌}
use mathlib.Core.Bool.{true}
use mathlib.Core.List.{List}
use mathlib.Core.Logic.{◌≢◌}
use Prim.Native.Nat.{ℕ, ◌*◌, ◌≤◌, min}
use native.Mathlib.Omega.{arith}
use lib.ListN.{length, get_or}
use Rattle.meaning.specs.declared.Mode.TheVariants.{Packets}
use Rattle.meaning.specs.declared.Planned.{Planned}
use Rattle.meaning.specs.declared.Told.{Told}
use Rattle.meaning.specs.Yard.{slowest_of, least_slots_of}
use Rattle.meaning.specs.Sheet.{least_slots}
use Rattle.meaning.specs.Plan.{any_plan}
use Rattle.meaning.specs.Rounds.{by_probe}
use Rattle.meaning.specs.Answer.{is_accepted, sheet_test, plan_made}
use Rattle.meaning.specs.Telephone.{at_most, times_any, asked}
use Rattle.laws.proofs.Telling.{blank, told, sheet-passed, tells-whole, tells-nothing}
use Rattle.laws.proofs.Grounds.{hops-most}
use Rattle.sheet.specs.declared.Tree.{Tree}
use Rattle.sheet.specs.Tree.{tree_of}
use Rattle.sheet.proofs.Standing.{Standing, standing, slowest-read, least-slots-read}

-- what is told by the planner's answer: of a plan, and of a refusal
abbrev pub whole : List ℕ → Planned → Told
whole s p =
    record {
      outcome = p.outcome;
      least = least_slots s;
      ours = p.slots;
      most = at_most s p.colours;
      times = times_any p.colours p.slots (least_slots s);
    }

abbrev pub nothing : Planned → Told
nothing p = record { outcome = p.outcome; least = 0; ours = 0; most = 0; times = 0 }

pub asked-tells : (s : List ℕ) → asked s ≡ told Packets by_probe s any_plan (whole s) nothing
unfolding asked
asked-tells s = refl

module _ (s : List ℕ) {planned : Planned} (is : planned ≡ (plan_made by_probe s (length (blank any_plan))).answer) where
  pub ask-refused : planned.outcome.number ≢ 0 → nothing planned ≡ asked s
  ask-refused refused = tells-nothing Packets by_probe s any_plan is (whole s) nothing refused ∙ sym (asked-tells s)

  pub ok : planned.outcome.number ≡ 0 → is_accepted (sheet_test s) ≡ true
  ok passed = sheet-passed Packets by_probe s any_plan is passed

  module _ (passed : planned.outcome.number ≡ 0) {tree : Tree} (read : tree ≡ tree_of s) where
    its : Standing s tree
    its = standing s (ok passed) tree read

    pub most-fits : {most : ℕ} (product : ℕ) → most ≡ min product tree.hops → most ≤ 59535
    most-fits product e = omega (arith, e, its.hops, hops-most s (ok passed))

    pub ask-planned : {least slow most times : ℕ}
        → least ≡ least_slots_of tree.probes (λ v. get_or tree.parents v 0) (λ v. get_or tree.packets v 0)
        → slow ≡ slowest_of tree.probes (λ v. get_or tree.parents v 0) (λ v. get_or tree.packets v 0)
        → most ≡ min (planned.colours * slow) tree.hops
        → times ≡ times_any planned.colours planned.slots least
        → (record { outcome = planned.outcome; least = least; ours = planned.slots; most = most; times = times }) ≡ asked s
    ask-planned {least} least-of slowest-of most-of times-of =
        let few = least-of ∙ least-slots-read s (ok passed) tree its in
        let end = most-of ∙ ap₂ (λ (h j : ℕ). min (planned.colours * h) j) (slowest-of ∙ slowest-read s (ok passed) tree its) its.hops in
        ap₂ (λ (m t : ℕ). record { outcome = planned.outcome; least = least; ours = planned.slots; most = m; times = t }) end times-of
        ∙ ap
        (λ (l : ℕ).
        record {
          outcome = planned.outcome;
          least = l;
          ours = planned.slots;
          most = at_most s planned.colours;
          times = times_any planned.colours planned.slots l;
        })
        few
        ∙ tells-whole Packets by_probe s any_plan is (whole s) nothing passed
        ∙ sym (asked-tells s)
