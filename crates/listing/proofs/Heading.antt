-- Line one: what the code counts in the tree that it read is what the sheet says.
use mathlib.Core.Path.{◌≡◌, ap, ap₂, ◌∙◌, subst}
use Rattle.std.specs.Prelude.{Result, Ok}
use Rattle.meaning.specs.declared.Refusal.{Refusal}
use Rattle.meaning.specs.Results.{Answers}
use mathlib.Core.Bool.{true}
use mathlib.Core.List.{List}
use Prim.Native.Nat.{ℕ}
use lib.ListN.{get_or}
use Rattle.meaning.specs.Words.{sum_probes}
use Rattle.meaning.specs.Yard.{heaviest_of, least_slots_of}
use Rattle.meaning.specs.Sheet.{all_packets, heaviest, least_slots}
use Rattle.meaning.specs.Answer.{is_accepted, sheet_test}
use Rattle.meaning.specs.Lister.{numbers_line}
use Rattle.lines.specs.Line.{line_length, line_in}
use Rattle.sheet.specs.declared.Tree.{Tree}
use Rattle.sheet.specs.Tree.{tree_of}
use Rattle.sheet.proofs.Standing.{Standing, standing, all-packets-read, heaviest-read, least-slots-read}

-- what is read of a sheet that is accepted
pub the-tree : (s : List ℕ) (read : Result Tree Refusal) (tree : Tree) → read ≡ Ok tree → Answers (sheet_test s) (tree_of s) read → tree ≡ tree_of s
the-tree s read tree is answers = (subst (λ (r : Result Tree Refusal). Answers (sheet_test s) (tree_of s) r) is answers).1

module _ (s : List ℕ) (ok : is_accepted (sheet_test s) ≡ true) (tree : Tree) (read : tree ≡ tree_of s) where
  its : Standing s tree
  its = standing s ok tree read

  pub headed : (colours slots all most least : ℕ) (out out' : List ℕ) (r : ℕ) → all ≡ sum_probes tree.probes (λ v. get_or tree.packets v 0)
      → most ≡ heaviest_of tree.probes (λ v. get_or tree.parents v 0) (λ v. get_or tree.packets v 0)
      → least ≡ least_slots_of tree.probes (λ v. get_or tree.parents v 0) (λ v. get_or tree.packets v 0)
      → r ≡ line_length out (numbers_line colours slots all most least) → out' ≡ line_in out (numbers_line colours slots all most least)
      → (r ≡ line_length out (numbers_line colours slots (all_packets s) (heaviest s) (least_slots s)))
      × (out' ≡ line_in out (numbers_line colours slots (all_packets s) (heaviest s) (least_slots s)))
  headed colours slots all most least out out' r sums most-of least-of answer buffer =
      let packets = ap₂ (λ (k n : ℕ). numbers_line colours slots k n least) (sums ∙ all-packets-read s ok tree its) (most-of ∙ heaviest-read s ok tree its) in
      let same = packets ∙ ap (numbers_line colours slots (all_packets s) (heaviest s)) (least-of ∙ least-slots-read s ok tree its) in
      (answer ∙ ap (line_length out) same, buffer ∙ ap (line_in out) same)
