-- The sheet read and the room tested: a refused sheet decides, and the sendings that the room is tested by are those of an accepted one.
use mathlib.Core.Path.{◌≡◌, sym, ap, ◌∙◌}
use mathlib.Core.Bool.{Bool, true}
use mathlib.Core.List.{List}
use Prim.Native.Nat.{ℕ, ◌+◌, ◌*◌, ◌≤◌, ◌<◌}
use borrow.Author.Tests.{lt-ltb, le-ltb}
use lib.Dec.{ltb}
use Rattle.meaning.specs.declared.Mode.{Mode}
use Rattle.meaning.specs.declared.Mode.TheVariants.{Packets, Merged}
use Rattle.meaning.specs.declared.Refusal.{Refusal}
use Rattle.meaning.specs.declared.Outcome.{Outcome}
use Rattle.meaning.specs.Results.{outcome_of}
use Rattle.sheet.specs.declared.Tree.{Tree}
use Rattle.meaning.specs.Plan.{room_for}
use Rattle.meaning.specs.Rounds.{sendings_in}
use Rattle.meaning.specs.Answer.{accepted, is_accepted, given, sheet_test}
use Rattle.laws.proofs.Accepted.{then-stays, then-goes}
use Rattle.sheet.specs.Tree.{tree_of}
use Rattle.sheet.proofs.Standing.{Standing, standing}
use Rattle.laws.proofs.Refused.{refused}
use Rattle.plan.specs.TurnByTurn.{sendings_by}
use Rattle.plan.specs.Answered.{ground_test}

module _ (room sendings : ℕ) where
  pub room-short : room < 2 + 2 * sendings → record { number = 9; place = 0 } ≡ given 9 0 (ltb room (room_for sendings))
  room-short h = sym (ap (λ (b : Bool). given 9 0 b) (lt-ltb room (room_for sendings) h))

  pub room-enough : 2 + 2 * sendings ≤ room → accepted ≡ given 9 0 (ltb room (room_for sendings))
  room-enough h = sym (ap (λ (b : Bool). given 9 0 b) (le-ltb room (room_for sendings) h))

-- the sendings that a tree tells, which are the sheet's
pub sendings-read : (mode : Mode) (s : List ℕ) (tree : Tree) → Standing s tree → sendings_by mode tree.probes tree.hops ≡ sendings_in mode s
sendings-read Packets s tree its = its.hops
sendings-read Merged s tree its = its.probes

module _ (mode : Mode) (s : List ℕ) (room : ℕ) where
  -- the sheet decides
  pub sheet-refuses : (refusal : Refusal) → outcome_of refusal ≡ sheet_test s → outcome_of refusal ≡ ground_test mode s room
  sheet-refuses refusal is =
      is ∙ sym (then-stays (sheet_test s) _ (ap (λ (o : Outcome). is_accepted o) (sym is) ∙ refused refusal))

  -- behind it the room, by the sendings of the tree
  pub room-decides : is_accepted (sheet_test s) ≡ true → (tree : Tree) (sendings : ℕ) → tree ≡ tree_of s → sendings ≡ sendings_by mode tree.probes tree.hops
      → given 9 0 (ltb room (room_for sendings)) ≡ ground_test mode s room
  room-decides ok tree sendings is many =
      ap (λ (n : ℕ). given 9 0 (ltb room (room_for n))) (many ∙ sendings-read mode s tree (standing s ok tree is))
      ∙ sym (then-goes (sheet_test s) _ ok)
