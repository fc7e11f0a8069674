-- Laws of the end of a text: what stands behind the last newline, what is wrong at the end, and what is answered.
use mathlib.Core.Path.{◌≡◌, sym, ap}
use mathlib.Core.Bool.{true, false}
use Prim.Native.Nat.{ℕ}
use borrow.Author.Tests.{eq-eqb, ne_eqb}
use lib.ListN.{length}
use Rattle.meaning.specs.Words.{Bytes}
use Rattle.graph.specs.declared.Reading.{Reading}
use Rattle.graph.specs.declared.Graph.{Graph}
use Rattle.graph.specs.Table.{Table, no_edges, edges}
use Rattle.graph.specs.Reading.{faulty, last_read, end_test, GraphRead, ended}

module _ (now : Reading) (behind : Bytes) where
  pub faulty-stays : (now.number ≡ 0 → ⊥) → now ≡ last_read now behind
  unfolding last_read
  faulty-stays some = simp (ne_eqb now.number 0 some)

  module _ (none : now.number ≡ 0) where
    pub ended-stays : length behind ≡ 0 → now ≡ last_read now behind
    unfolding last_read
    ended-stays e = simp (eq-eqb now.number 0 none, eq-eqb (length behind) 0 e)

    pub unended : (length behind ≡ 0 → ⊥) → faulty 18 now ≡ last_read now behind
    unfolding last_read
    unended more = simp (eq-eqb now.number 0 none, ne_eqb (length behind) 0 more)

module _ (now : Reading) (table : Table) where
  pub no-problem-line : now.begun ≡ false → 18 ≡ end_test now table
  unfolding end_test
  no-problem-line e = simp e

  module _ (begun : now.begun ≡ true) (n : ℕ) (n_is : n ≡ edges table) where
    pub count-differs : (now.stated ≡ n → ⊥) → 20 ≡ end_test now table
    unfolding end_test
    count-differs other = simp (begun, sym n_is, ne_eqb now.stated n other)

    pub count-agrees : now.stated ≡ n → 0 ≡ end_test now table
    unfolding end_test
    count-agrees same = simp (begun, sym n_is, eq-eqb now.stated n same)

-- the answer, taken apart
parted : (x : GraphRead) (answer : Graph) (table : Table) → x ≡ record { answer = answer; table = table } → (answer ≡ x.answer) × (table ≡ x.table)
parted x answer table e = (sym (ap (λ (y : GraphRead). y.answer) e), sym (ap (λ (y : GraphRead). y.table) e))

module _ (now : Reading) (table : Table) where
  abbrev end : GraphRead
  end = ended (record { state = now; table = table })

  abbrev refusing : (number place : ℕ) → Graph
  refusing number place = record { number = number; place = place; vertices = 0 }

  -- a faulty line was read; `answer` and `cleared` are what a refusal gives
  module _ (answer : Graph) (cleared : Table) (clear : cleared ≡ no_edges) where
    pub line-refuses : (now.number ≡ 0 → ⊥) → answer ≡ refusing now.number now.place → (answer ≡ end.answer) × (cleared ≡ end.table)
    unfolding ended
    line-refuses some e = parted end answer cleared (simp (ne_eqb now.number 0 some, clear, e))

    -- the end is wrong
    pub end-refuses : (n : ℕ) → n ≡ end_test now table → now.number ≡ 0 → (n ≡ 0 → ⊥) → answer ≡ refusing n 0 → (answer ≡ end.answer) × (cleared ≡ end.table)
    unfolding ended
    end-refuses n n_is none some e = parted end answer cleared (simp (eq-eqb now.number 0 none, sym n_is, ne_eqb n 0 some, clear, e))

  pub accepts : (n : ℕ) → n ≡ end_test now table → now.number ≡ 0 → n ≡ 0
      → (record { number = 0; place = 0; vertices = now.vertices } ≡ end.answer) × (table ≡ end.table)
  unfolding ended
  accepts n n_is none fine = parted end (record { number = 0; place = 0; vertices = now.vertices }) table (simp (eq-eqb now.number 0 none, sym n_is, eq-eqb n 0 fine))
