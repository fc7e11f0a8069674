-- The answer for a sheet, by the planner's: a refusal's, or the depth that the code reads in the tree, which is the sheet's.
use mathlib.Core.Path.{◌≡◌, refl, sym, ap, ap₂, ◌∙◌}
use mathlib.Core.Bool.{true}
use mathlib.Core.List.{List}
use mathlib.Core.Logic.{◌≢◌}
use Prim.Native.Nat.{ℕ, ◌*◌, min}
use lib.ListN.{length, get_or}
use Rattle.meaning.specs.declared.Mode.TheVariants.{Merged}
use Rattle.meaning.specs.declared.Level.{Level}
use Rattle.meaning.specs.declared.Planned.{Planned}
use Rattle.meaning.specs.declared.MergedTold.{MergedTold}
use Rattle.meaning.specs.Words.{most_probes}
use Rattle.meaning.specs.Plan.{any_merged}
use Rattle.meaning.specs.Colour.{depth}
use Rattle.meaning.specs.Rounds.{merged}
use Rattle.meaning.specs.Answer.{is_accepted, sheet_test, merged_made}
use Rattle.meaning.specs.Merged.{merged_most, merged_asked}
use Rattle.laws.proofs.Telling.{blank, told, sheet-passed, tells-whole, tells-nothing}
use Rattle.sheet.specs.declared.Tree.{Tree}
use Rattle.sheet.specs.Tree.{tree_of}
use Rattle.sheet.proofs.Standing.{standing, deepest-read}

-- what is told by the planner's answer: of a plan, and of a refusal
abbrev pub whole : List ℕ → Planned → MergedTold
whole s p = record { outcome = p.outcome; least = depth s; ours = p.slots; most = merged_most s p.colours }

abbrev pub nothing : Planned → MergedTold
nothing p = record { outcome = p.outcome; least = 0; ours = 0; most = 0 }

pub asked-tells : (s : List ℕ) → merged_asked s ≡ told Merged merged s any_merged (whole s) nothing
unfolding merged_asked
asked-tells s = refl

module _ (s : List ℕ) {planned : Planned} (is : planned ≡ (merged_made s (length (blank any_merged))).answer) where
  pub ask-refused : planned.outcome.number ≢ 0 → nothing planned ≡ merged_asked s
  ask-refused refused = tells-nothing Merged merged s any_merged is (whole s) nothing refused ∙ sym (asked-tells s)

  pub ok : planned.outcome.number ≡ 0 → is_accepted (sheet_test s) ≡ true
  ok passed = sheet-passed Merged merged s any_merged is passed

  pub ask-planned : planned.outcome.number ≡ 0 → {tree : Tree} → tree ≡ tree_of s
      → {deepest : Level} → deepest ≡ record { 0 = most_probes tree.probes (λ v. get_or tree.levels v 0) }
      → {most : ℕ} → most ≡ min (planned.colours * deepest.0) tree.probes
      → (record { outcome = planned.outcome; least = deepest.0; ours = planned.slots; most = most }) ≡ merged_asked s
  ask-planned passed {tree} read {deepest} deep most-of =
      let its = standing s (ok passed) tree read in
      let its-depth : deepest.0 ≡ depth s = ap (λ (d : Level). d.0) deep ∙ deepest-read s (ok passed) tree its in
      let end = most-of ∙ ap₂ (λ (d p : ℕ). min (planned.colours * d) p) its-depth its.probes in
      ap₂ (λ (l m : ℕ). record { outcome = planned.outcome; least = l; ours = planned.slots; most = m }) its-depth end
      ∙ tells-whole Merged merged s any_merged is (whole s) nothing passed
      ∙ sym (asked-tells s)
