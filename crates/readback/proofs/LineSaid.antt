-- A line that is written is the line that is read: its words are found one by one, and each number says itself.
use mathlib.Core.Path.{◌≡◌, refl, sym, ap, ap₂, ◌∙◌}
use mathlib.Core.Bool.{true, false}
use mathlib.Core.List.{[], ◌∷◌, ◌++◌, append-nil}
use Prim.Native.Nat.{ℕ, suc, ◌+◌, ◌≤◌}
use native.Mathlib.Omega.{arith}
use Rattle.meaning.specs.Words.{Bytes}
use Rattle.meaning.specs.Lister.{text, decimal}
use Rattle.digits.specs.Digits.{number_said}
use Rattle.graph.specs.declared.Line.TheVariants.{Problem, Edge}
use Rattle.graph.specs.Part.{newline, space, marks, part}
use Rattle.graph.specs.Lines.{same, is_number, number_at, is_problem, is_edge, line_of}
use Rattle.graph.specs.Drawing.{problem_line, edge_line}
use Rattle.graph.proofs.Cut.{part-whole}
use Rattle.readback.proofs.Appended.{marks-append, part-goes-on, part-behind}
use Rattle.readback.proofs.SaysItself.{is-number, said-is, no-mark}

-- two numbers with a space between
unfoldable pub two : (a b : ℕ) → Bytes
two a b = decimal 5 a ++ (space ∷ decimal 5 b)

-- an `e` line and a `p` line without their ends
abbrev pub edge_words : (a b : ℕ) → Bytes
edge_words a b = 101 ∷ space ∷ two a b

abbrev pub problem_words : (n m : ℕ) → Bytes
problem_words n m = 112 ∷ space ∷ 101 ∷ 100 ∷ 103 ∷ 101 ∷ space ∷ two n m

module _ (a b : ℕ) where
  no-space : (n : ℕ) → marks space (decimal 5 n) ≡ 0
  no-space n = no-mark space 5 n (omega arith)

  behind-space : (l : Bytes) → part space 1 (space ∷ l) ≡ part space 0 l
  unfolding part
  behind-space l = refl

  ends_there : (l : Bytes) → part space 0 (space ∷ l) ≡ []
  unfolding part
  ends_there l = refl

  one-space : (l : Bytes) → marks space (space ∷ l) ≡ suc (marks space l)
  unfolding marks
  one-space l = refl

  two-marks : marks space (two a b) ≡ 1
  unfolding two
  two-marks = marks-append space (decimal 5 a) (space ∷ decimal 5 b) ∙ ap₂ ◌+◌ (no-space a) (one-space (decimal 5 b) ∙ ap suc (no-space b))

  two-first : part space 0 (two a b) ≡ decimal 5 a
  unfolding two
  two-first =
      ap (λ (k : ℕ). part space k (decimal 5 a ++ (space ∷ decimal 5 b))) (sym (no-space a))
      ∙ part-goes-on space (decimal 5 a) (space ∷ decimal 5 b)
      ∙ ap₂ ◌++◌ (ap (λ (k : ℕ). part space k (decimal 5 a)) (no-space a) ∙ part-whole space (decimal 5 a) (no-space a)) (ends_there (decimal 5 b))
      ∙ append-nil (decimal 5 a)

  two-second : part space 1 (two a b) ≡ decimal 5 b
  unfolding two
  two-second =
      ap (λ (k : ℕ). part space (k + 1) (decimal 5 a ++ (space ∷ decimal 5 b))) (sym (no-space a))
      ∙ part-behind space 0 (decimal 5 a) (space ∷ decimal 5 b)
      ∙ behind-space (decimal 5 b)
      ∙ part-whole space (decimal 5 b) (no-space b)

  no-newline : marks newline (two a b) ≡ 0
  unfolding two marks
  no-newline = marks-append newline (decimal 5 a) (space ∷ decimal 5 b) ∙ ap₂ ◌+◌ (no-mark newline 5 a (omega arith)) (no-mark newline 5 b (omega arith))

  pub edge-one-line : marks newline (edge_words a b) ≡ 0
  unfolding marks
  edge-one-line = no-newline

  pub problem-one-line : marks newline (problem_words a b) ≡ 0
  unfolding marks
  problem-one-line = no-newline

  -- the lines with their ends
  pub edge-line : edge_line a b ≡ edge_words a b ++ (newline ∷ [])
  unfolding edge_line text two
  edge-line = refl

  pub problem-line : problem_line a b ≡ problem_words a b ++ (newline ∷ [])
  unfolding problem_line text two
  problem-line = refl

  module _ (h : a ≤ 65535) (l : b ≤ 65535) where
    first-number : is_number (part space 0 (two a b)) ≡ true
    first-number = ap is_number two-first ∙ is-number a (omega (arith, h))

    second-number : is_number (part space 1 (two a b)) ≡ true
    second-number = ap is_number two-second ∙ is-number b (omega (arith, l))

    edge-words : is_edge (edge_words a b) ≡ true
    unfolding is_edge marks part same text
    edge-words = simp (two-marks, first-number, second-number)

    edge-no-problem : is_problem (edge_words a b) ≡ false
    unfolding is_problem marks
    edge-no-problem = simp two-marks

    problem-words : is_problem (problem_words a b) ≡ true
    unfolding is_problem marks part same text
    problem-words = simp (two-marks, first-number, second-number)

    edge-numbers : Edge (number_at (edge_words a b) 1) (number_at (edge_words a b) 2) ≡ Edge a b
    unfolding part
    edge-numbers = ap₂ Edge (ap number_said two-first ∙ said-is a h) (ap number_said two-second ∙ said-is b l)

    problem-numbers : Problem (number_at (problem_words a b) 2) (number_at (problem_words a b) 3) ≡ Problem a b
    unfolding part
    problem-numbers = ap₂ Problem (ap number_said two-first ∙ said-is a h) (ap number_said two-second ∙ said-is b l)

    pub edge-read : line_of (edge_words a b) ≡ Edge a b
    unfolding line_of
    edge-read = simp (edge-no-problem, edge-words) edge-numbers

    pub problem-read : line_of (problem_words a b) ≡ Problem a b
    unfolding line_of
    problem-read = simp problem-words problem-numbers
