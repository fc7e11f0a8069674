-- A hop of a walk and its lag, and summands that add nothing: each goes by what the definitions say of one step.
use mathlib.Core.Path.{◌≡◌, refl, sym, ap, ap₂, ◌∙◌}
use mathlib.Core.Bool.{Bool, true, false, cond}
use mathlib.Core.List.{List}
use mathlib.Core.Logic.{⊎_elim}
use Prim.Native.Nat.{ℕ, zero, suc, ◌+◌, ◌-◌, ◌≤◌, ◌<◌, min}
use Rattle.std.proofs.lemmas.Bool.{cases_lt}
use native.Mathlib.Omega.{arith}
use borrow.Author.Tests.{ne_eqb}
use lib.Dec.{eqb}
use lib.ListN.{length, get_or, get_or-eq_default}
use Rattle.meaning.specs.Yard.{reaches, lag_on, branch_packets}
use Rattle.meaning.specs.Words.{places, sum}
use Rattle.laws.proofs.Walk.{reaches-on, lag-on}

module _ (parent : ℕ → ℕ) (top : ℕ) where
  -- with no hop left only the node itself counts
  pub comes-last : (left v : ℕ) (whole : Bool) → left ≤ 0 → reaches parent top left v ≡ whole → eqb v top ≡ whole
  unfolding reaches
  comes-last left v whole h e =
      let none : left ≡ 0 = omega arith in
      ap (λ (n : ℕ). reaches parent top n v) (sym none) ∙ e

  -- a walk that stays where it is, and is not there, never comes
  pub stays : (left v u : ℕ) (whole : Bool) → (v ≡ top → ⊥) → u ≡ parent v → u ≡ v → reaches parent top left v ≡ whole → false ≡ whole
  unfolding reaches
  stays left v u whole ne at same e = sym (never left) ∙ e
    where
      still : parent v ≡ v
      still = sym at ∙ same

      never : (n : ℕ) → reaches parent top n v ≡ false
      never zero = ne_eqb v top ne
      never (suc n) = reaches-on parent top n v ne ∙ ap (reaches parent top n) still ∙ never n

  -- a hop
  pub comes-on : (left next v u : ℕ) (whole : Bool) → suc next ≡ left → (v ≡ top → ⊥) → u ≡ parent v → reaches parent top left v ≡ whole → reaches parent top next u ≡ whole
  comes-on left next v u whole more ne at e =
      ap (reaches parent top next) at ∙ sym (reaches-on parent top next v ne) ∙ ap (λ (n : ℕ). reaches parent top n v) more ∙ e

  module _ (packets : ℕ → ℕ) where
    -- with no hop left the lag is what it is
    pub lag-last : (left lag v whole : ℕ) → left ≤ 0 → lag_on parent packets top left lag v ≡ whole → lag ≡ whole
    unfolding lag_on
    lag-last left lag v whole h e =
        let none : left ≡ 0 = omega arith in
        ap (λ (n : ℕ). lag_on parent packets top n lag v) (sym none) ∙ e

    -- a hop adds one, and the node that it comes to takes its packets away
    pub lag-next : (left next lag v u taken more whole : ℕ) → suc next ≡ left → (v ≡ top → ⊥) → u ≡ parent v → taken ≡ packets u → more ≡ lag + 1 - taken
        → lag_on parent packets top left lag v ≡ whole → lag_on parent packets top next more u ≡ whole
    lag-next left next lag v u taken more whole one ne at t n e =
        ap₂ (lag_on parent packets top next) (n ∙ ap (λ (x : ℕ). lag + 1 - x) (t ∙ ap packets at)) at
        ∙ sym (lag-on parent packets top next lag v ne) ∙ ap (λ (n : ℕ). lag_on parent packets top n lag v) one ∙ e

-- what counts, if a test is met and if not
pub brings : (test whole : Bool) (r x y : ℕ) → test ≡ true → test ≡ whole → r ≡ x → r ≡ cond whole x y
brings test whole r x y e w q = q ∙ ap (λ (b : Bool). cond b x y) (sym e ∙ w)

pub brings-none : (test whole : Bool) (r x y : ℕ) → test ≡ false → test ≡ whole → r ≡ y → r ≡ cond whole x y
brings-none test whole r x y e w q = q ∙ ap (λ (b : Bool). cond b x y) (sym e ∙ w)

-- where there is nothing to bring, the test does not matter
brings-zero : (test : Bool) (x : ℕ) → x ≡ 0 → cond test x 0 ≡ 0
brings-zero true x e = e
brings-zero false x e = refl

-- summands from n on that are 0 add nothing
sum-cut : (f : ℕ → ℕ) (n : ℕ) → ((k : ℕ) → n ≤ k → f k ≡ 0) → (p k : ℕ) → k ≡ min p n → sum k f ≡ sum p f
unfolding sum
sum-cut f n rest zero k e = let none : k ≡ 0 = omega arith in ap (λ (m : ℕ). sum m f) none
sum-cut f n rest (suc p) k e =
    ⊎_elim (λ (less : p < n). let whole : k ≡ suc p = omega arith in ap (λ (m : ℕ). sum m f) whole)
    (λ (past : n ≤ p). omega (arith, sum-cut f n rest p k (omega arith), rest p past))
    (cases_lt p n)

-- past its end a list by node has 0
past_end : (list : List ℕ) → length list ≡ places → (v : ℕ) → places ≤ v → get_or list v 0 ≡ 0
past_end list long v h = get_or-eq_default list 0 (omega arith)

module _ (parents packets : List ℕ) (long : length packets ≡ places) (p : ℕ) where
  abbrev parent : ℕ → ℕ
  parent v = get_or parents v 0

  abbrev packets_of : ℕ → ℕ
  packets_of v = get_or packets v 0

  abbrev packets_by : (top : ℕ) → ℕ → ℕ
  packets_by top i = cond (reaches parent top p (i + 2)) (packets_of (i + 2)) 0

  -- a probe past the end of the table has no packets
  pub packets-all : (top k all : ℕ) → k ≡ min p 63 → all ≡ sum k (packets_by top) → all ≡ branch_packets p parent packets_of top
  packets-all top k all e is =
      is ∙ sum-cut (packets_by top) 63 (λ j h. brings-zero (reaches parent top p (j + 2)) _ (past_end packets long (j + 2) (omega arith))) p k e
