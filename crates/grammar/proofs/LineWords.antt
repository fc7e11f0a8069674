-- What a word and a line are, as the tests go: a test that fails decides, and else the tests behind it do.
use mathlib.Core.Path.{◌≡◌, sym, ap, ◌∙◌}
use mathlib.Core.Bool.{Bool, true, false, not, ◌&&◌, ◌||◌, and-false}
use mathlib.Core.List.{List, [], ◌∷◌}
use Prim.Native.Nat.{ℕ, suc, ◌+◌, ◌-◌}
use native.Mathlib.Omega.{arith}
use borrow.Author.Tests.{eq-eqb, ne_eqb}
use lib.Dec.{eqb}
use lib.ListN.{length, get_or, drop, get_or-eq_default}
use Rattle.digits.specs.Digits.{others_stand}
use Rattle.meaning.specs.Lister.{text}
use Rattle.graph.specs.declared.Line.TheVariants.{Comment, Problem, Edge, Other}
use Rattle.graph.specs.Part.{space, marks, part}
use Rattle.graph.specs.Lines.{same, is_number, number_at, is_comment, is_problem, is_edge, line_of}
use Rattle.graph.proofs.Cut.{parts_next}

-- the word behind k spaces stands behind one less in what is behind the first
pub word-later : (mark k : ℕ) (u : List ℕ) → (k ≡ 0 → ⊥) → part mark (k - 1) (drop (length (part mark 0 u) + 1) u) ≡ part mark k u
word-later mark k u some =
    let one : suc (k - 1) ≡ k = omega arith in
    let next : length (part mark 0 u) + 1 ≡ suc (length (part mark 0 u)) = omega arith in
    ap (λ (n : ℕ). part mark (k - 1) (drop n u)) next ∙ sym (parts_next mark (k - 1) u) ∙ ap (λ (n : ℕ). part mark n u) one

pub empty-no-comment : (line : List ℕ) → length line ≡ 0 → false ≡ is_comment line
empty-no-comment line none = simp (get_or-eq_default line 0 {n = 0} (omega arith))

module _ (word : List ℕ) where
  pub empty-no-number : length word ≡ 0 → false ≡ is_number word
  unfolding is_number
  empty-no-number none = simp (eq-eqb (length word) 0 none)

  pub others-no-number : others_stand word ≡ true → false ≡ is_number word
  unfolding is_number
  others-no-number others = rw others (sym (and-false (not (eqb (length word) 0))))

  pub digits_number : (length word ≡ 0 → ⊥) → others_stand word ≡ false → (eqb (length word) 1 || not (eqb (get_or word 0 0) 48)) ≡ is_number word
  unfolding is_number
  digits_number some digits = simp (ne_eqb (length word) 0 some, digits)

module _ (line : List ℕ) where
  pub spaces-no-problem : (marks space line ≡ 3 → ⊥) → false ≡ is_problem line
  unfolding is_problem
  spaces-no-problem other = simp (ne_eqb (marks space line) 3 other)

  pub words-problem : marks space line ≡ 3 → (p edge n m : Bool)
      → p ≡ same (part space 0 line) (112 ∷ []) → edge ≡ same (part space 1 line) (101 ∷ 100 ∷ 103 ∷ 101 ∷ [])
      → n ≡ is_number (part space 2 line) → m ≡ is_number (part space 3 line) → (p && (edge && (n && m))) ≡ is_problem line
  unfolding is_problem text
  words-problem three p edge n m ep ee en em = rw (eq-eqb (marks space line) 3 three, ep, ee, en, em)

  pub spaces-no-edge : (marks space line ≡ 2 → ⊥) → false ≡ is_edge line
  unfolding is_edge
  spaces-no-edge other = simp (ne_eqb (marks space line) 2 other)

  pub words-edge : marks space line ≡ 2 → (e a b : Bool)
      → e ≡ same (part space 0 line) (101 ∷ []) → a ≡ is_number (part space 1 line) → b ≡ is_number (part space 2 line) → (e && (a && b)) ≡ is_edge line
  unfolding is_edge text
  words-edge two e a b ee ea eb = rw (eq-eqb (marks space line) 2 two, ee, ea, eb)

  pub line-comment : is_comment line ≡ true → Comment ≡ line_of line
  unfolding line_of
  line-comment c = simp c

  module _ (no-comment : is_comment line ≡ false) where
    pub line-problem : is_problem line ≡ true → (n m : ℕ) → n ≡ number_at line 2 → m ≡ number_at line 3 → Problem n m ≡ line_of line
    unfolding line_of
    line-problem p n m en em = simp (no-comment, p, en, em)

    module _ (no-problem : is_problem line ≡ false) where
      pub line-edge : is_edge line ≡ true → (a b : ℕ) → a ≡ number_at line 1 → b ≡ number_at line 2 → Edge a b ≡ line_of line
      unfolding line_of
      line-edge e a b ea eb = simp (no-comment, no-problem, e, ea, eb)

      pub line_other : is_edge line ≡ false → Other ≡ line_of line
      unfolding line_of
      line_other no_edge = simp (no-comment, no-problem, no_edge)
