-- Whom a number is said of, and which line an answer has.
use mathlib.Core.Path.{◌≡◌}
use mathlib.Core.Bool.{true, false}
use mathlib.Core.List.{List, [], ◌++◌}
use Prim.Native.Nat.{ℕ, min}
use borrow.Author.Tests.{eq-eqb, ne_eqb}
use Rattle.meaning.specs.declared.Mode.{Mode}
use Rattle.meaning.specs.declared.Outcome.{Outcome}
use Rattle.meaning.specs.declared.Planned.{Planned}
use Rattle.meaning.specs.declared.Judgement.{Judgement}
use Rattle.meaning.specs.Lister.{text, decimal, said}
use Rattle.wording.specs.Worded.{of_senders, subject, one_or_two, refused_line, blamed_line, planned_line, verdict_line, written_line}

-- whom a number is said of: these senders, or nobody
module _ (number : ℕ) (senders : List ℕ) where
  pub these : of_senders number ≡ true → senders ≡ subject number senders
  unfolding subject
  these e = rw e

  pub nobody : of_senders number ≡ false → [] ≡ subject number senders
  unfolding subject
  nobody e = rw e

-- two senders, or one
module _ (two one : List ℕ) {number : ℕ} where
  pub both-of : number ≡ 15 → two ≡ one_or_two number two one
  unfolding one_or_two
  both-of e = rw (eq-eqb number 15 e)

  pub one-of : (number ≡ 15 → ⊥) → one ≡ one_or_two number two one
  unfolding one_or_two
  one-of ne = rw (ne_eqb number 15 ne)

-- the line of an answer where nothing is wrong, and where something is
module _ (planned : Planned) where
  pub planned-line : planned.outcome.number ≡ 0
      → planned_line planned
      ≡ said "planned" planned.slots ++ said " slots," planned.colours ++ said " colours," (min planned.bytes 65535) ++ text " bytes\n"
  unfolding planned_line
  planned-line e = rw (eq-eqb planned.outcome.number 0 e)

  pub unplanned-line : (planned.outcome.number ≡ 0 → ⊥) → planned_line planned ≡ refused_line planned.outcome
  unfolding planned_line
  unplanned-line ne = rw (ne_eqb planned.outcome.number 0 ne)

module _ (mode : Mode) (judgement : Judgement) where
  pub passed-line : judgement.verdict.outcome.number ≡ 0 → verdict_line mode judgement ≡ said "passed" judgement.verdict.slots ++ text " slots\n"
  unfolding verdict_line
  passed-line e = rw (eq-eqb judgement.verdict.outcome.number 0 e)

  pub failed-line : (judgement.verdict.outcome.number ≡ 0 → ⊥)
      → verdict_line mode judgement ≡ blamed_line mode judgement.verdict.outcome judgement.names
  unfolding verdict_line
  failed-line ne = rw (ne_eqb judgement.verdict.outcome.number 0 ne)

module _ (outcome : Outcome) (bytes : ℕ) where
  pub written-line : outcome.number ≡ 0 → written_line outcome bytes ≡ text "written " ++ decimal 20 bytes ++ text " bytes\n"
  unfolding written_line
  written-line e = rw (eq-eqb outcome.number 0 e)

  pub unwritten-line : (outcome.number ≡ 0 → ⊥) → written_line outcome bytes ≡ refused_line outcome
  unfolding written_line
  unwritten-line ne = rw (ne_eqb outcome.number 0 ne)
