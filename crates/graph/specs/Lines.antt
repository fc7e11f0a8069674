-- RULES, "A graph as text": what a line is, by its words.
use Rattle.std.specs.Prelude.{Bool, true, false, cond, not, ◌&&◌, ◌||◌, [], ◌∷◌, ℕ, eqb, length, get_or}
use Rattle.meaning.specs.Words.{Bytes}
use Rattle.meaning.specs.Lister.{text}
use Rattle.digits.specs.Digits.{others_stand, number_said}
use Rattle.graph.specs.declared.Line.{Line}
use Rattle.graph.specs.declared.Line.TheVariants.{Comment, Problem, Edge, Other}
use Rattle.graph.specs.Part.{space, marks, part}

-- the same bytes
unfoldable pub same : (xs ys : Bytes) → Bool
same [] [] = true
same [] (y ∷ ys) = false
same (x ∷ xs) [] = false
same (x ∷ xs) (y ∷ ys) = eqb x y && same xs ys

-- "A graph as text": a number is decimal without leading zeros: digits, at least one, and 0 in front only where it stands alone
unfoldable pub is_number : (word : Bytes) → Bool
is_number word = not (eqb (length word) 0) && (not (others_stand word) && (eqb (length word) 1 || not (eqb (get_or word 0 0) 48)))

-- the number that word k of a line says, 65,535 for all above
abbrev pub number_at : (line : Bytes) → (k : ℕ) → ℕ
number_at line k = number_said (part space k line)

-- "A graph as text": lines beginning with `c` are skipped
abbrev pub is_comment : (line : Bytes) → Bool
is_comment line = eqb (get_or line 0 0) 99

-- "A graph as text": `p edge` with the number of vertices and of edges
unfoldable pub is_problem : (line : Bytes) → Bool
is_problem line =
    eqb (marks space line) 3
    && (same (part space 0 line) (text "p")
    && (same (part space 1 line) (text "edge") && (is_number (part space 2 line) && is_number (part space 3 line))))

-- "A graph as text": `e` with two vertices
unfoldable pub is_edge : (line : Bytes) → Bool
is_edge line =
    eqb (marks space line) 2
    && (same (part space 0 line) (text "e") && (is_number (part space 1 line) && is_number (part space 2 line)))

-- "A graph as text": a line is one of these, or any other
unfoldable pub line_of : (line : Bytes) → Line
line_of line =
    cond (is_comment line) Comment
    (cond (is_problem line) (Problem (number_at line 2) (number_at line 3))
    (cond (is_edge line) (Edge (number_at line 1) (number_at line 2)) Other))
