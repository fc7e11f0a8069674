-- Laws of one line: what is wrong with it, and what stands after it, by what the code has tested.
use mathlib.Core.Path.{◌≡◌, refl, sym, ap, ◌∙◌}
use mathlib.Core.Bool.{Bool, true, false, cond, not, ◌&&◌}
use Prim.Native.Nat.{ℕ, ◌≤◌}
use native.Mathlib.Omega.{arith}
use borrow.Author.Tests.{leb-true, eq-eqb, ne_eqb}
use lib.Dec.{leb}
use Rattle.meaning.specs.Words.{Bytes}
use Rattle.laws.proofs.Slots.{and_right}
use Rattle.graph.specs.declared.Line.{Line}
use Rattle.graph.specs.declared.Line.TheVariants.{Comment, Problem, Edge, Other}
use Rattle.graph.specs.declared.Reading.{Reading}
use Rattle.graph.specs.Lines.{line_of}
use Rattle.graph.specs.Table.{Table}
use Rattle.graph.specs.Reading.{SoFar, may_stand, is_astray, line_test, taken, faulty, table_after, line_read}
use Rattle.parse.specs.Vertices.{vertices_said}

-- what holds of the three other lines holds of a line that is no edge, and of one that is no `p` line
pub no_edge : (P : Line → Type 0) → P Comment → ((n m : ℕ) → P (Problem n m)) → P Other
    → (l : Line) → ((a b : ℕ) → l ≡ Edge a b → ⊥) → P l
no_edge P comment problem other Comment none = comment
no_edge P comment problem other (Problem n m) none = problem n m
no_edge P comment problem other (Edge a b) none = absurd (none a b refl)
no_edge P comment problem other Other none = other

pub no-problem : (P : Line → Type 0) → P Comment → ((a b : ℕ) → P (Edge a b)) → P Other
    → (l : Line) → ((n m : ℕ) → l ≡ Problem n m → ⊥) → P l
no-problem P comment edge other Comment none = comment
no-problem P comment edge other (Problem n m) none = absurd (none n m refl)
no-problem P comment edge other (Edge a b) none = edge a b
no-problem P comment edge other Other none = other

-- the number of a line
module _ (now : Reading) (table : Table) (l : Line) (stands : Bool) (stands_is : stands ≡ may_stand now table l) where
  pub gives-18 : stands ≡ false → 18 ≡ line_test now table l
  unfolding line_test
  gives-18 never = simp (sym stands_is ∙ never)

  module _ (astray : Bool) (astray_is : astray ≡ is_astray now l) (may : stands ≡ true) where
    pub gives-19 : astray ≡ true → 19 ≡ line_test now table l
    unfolding line_test
    gives-19 out = simp (sym stands_is ∙ may, sym astray_is ∙ out)

    pub gives-0 : astray ≡ false → 0 ≡ line_test now table l
    unfolding line_test
    gives-0 in-range = simp (sym stands_is ∙ may, sym astray_is ∙ in-range)

-- a line without a fault says at most 63 vertices
pub few-said : (now : Reading) (table : Table) (l : Line) → line_test now table l ≡ 0 → vertices_said l ≤ 63
unfolding line_test may_stand vertices_said
few-said now table Comment e = omega arith
few-said now table (Problem n m) e = leb-true n 63 (and_right (not now.begun) (leb n 63) (stood (not now.begun && leb n 63) _ e))
  where
    stood : (b : Bool) (x : ℕ) → cond b x 18 ≡ 0 → b ≡ true
    stood true x e = refl
    stood false x e = absurd (omega arith)
few-said now table (Edge a b) e = omega arith
few-said now table Other e = omega arith

-- what was read, taken apart
parted : (x : SoFar) (state : Reading) (table : Table) → x ≡ record { state = state; table = table } → (state ≡ x.state) × (table ≡ x.table)
parted x state table e = (sym (ap (λ (y : SoFar). y.state) e), sym (ap (λ (y : SoFar). y.table) e))

-- one line more
module _ (now : Reading) (table : Table) (u : Bytes) where
  abbrev after : SoFar
  after = line_read (record { state = now; table = table }) u

  -- behind a faulty line
  pub stays : (now.number ≡ 0 → ⊥) → (now ≡ after.state) × (table ≡ after.table)
  unfolding line_read
  stays some = parted after now table (simp (ne_eqb now.number 0 some))

  module _ (l : Line) (is : l ≡ line_of u) (n : ℕ) (n_is : n ≡ line_test now table l) (none : now.number ≡ 0) where
    tested : line_test now table (line_of u) ≡ n
    tested = ap (line_test now table) (sym is) ∙ sym n_is

    pub turns-faulty : (state : Reading) → state ≡ faulty n now → (n ≡ 0 → ⊥) → (state ≡ after.state) × (table ≡ after.table)
    unfolding line_read
    turns-faulty state e some = parted after state table (simp (eq-eqb now.number 0 none, tested, ne_eqb n 0 some, e))

    pub goes_on : (state : Reading) (table' : Table) → state ≡ taken now l → table' ≡ table_after table l → n ≡ 0 → (state ≡ after.state) × (table' ≡ after.table)
    unfolding line_read
    goes_on state table' e t fine =
        parted after state table' (simp (eq-eqb now.number 0 none, tested, eq-eqb n 0 fine, e, t, is))
