-- A list that is made by calls at each number in turn, as `array::from_fn` makes it, by recursion on how many calls are left: where no call changes
-- the closure, each answer stands at its place.
use Rattle.std.proofs.Common.{◌≡◌, ℕ, zero, suc, ◌+◌, ◌≤◌, ◌<◌, List, get_or, refl, sym, ap, ◌∙◌, subst, arith}
use Rattle.std.proofs.Math.Seq.{ext_get_or}
use Rattle.std.specs.Fn.{Called, Mut}
use Rattle.std.specs.Array.{IsFromFnResultFrom, IsFromFnResult}
use Rattle.meaning.specs.Words.{tab}
use Rattle.laws.proofs.Turns.{same-or-other, length-tab, get_or-tab}
use mathlib.Core.Logic.{⊎_elim}

module _ {F B : Type 0} (g : Mut F (ℕ × Unit {0}) B) (f : F) (n : ℕ) (value : ℕ → B)
    (answers : (i : ℕ) (y : B) (after : F) → i < n → Called g f (i, tt) y after → (y ≡ value i) × (after ≡ f)) where
  -- what stands at the places from i on
  from_place : (ys : List B) (i more : ℕ) → i + more ≡ n → (now : F) → now ≡ f → IsFromFnResultFrom g now ys i more
      → (k : ℕ) → i ≤ k → k < n → (d : B) → get_or ys k d ≡ value k
  from_place ys i zero all now same made k low high d = absurd (omega arith)
  from_place ys i (suc more) all now same made k low high d =
      let called : Called g f (i, tt) made.1 made.0 = subst (λ (p : F). Called g p (i, tt) made.1 made.0) same made.3 in
      let one = answers i made.1 made.0 (omega arith) called in
      ⊎_elim
      (λ (here : k ≡ i). ap (λ (j : ℕ). get_or ys j d) here ∙ made.2.1 d ∙ one.0 ∙ ap value (sym here))
      (λ (later : k ≡ i → ⊥). from_place ys (i + 1) more (omega arith) made.0 one.1 made.4 k (omega arith) high d)
      (same-or-other k i)

  pub made_tab : (d : B) (ys : List B) → IsFromFnResult g f ys n → ys ≡ tab n value
  made_tab d ys made =
      ext_get_or d ys (tab n value) (made.long ∙ sym (length-tab n value))
      (λ k h.
      let within : k < n = subst (λ (m : ℕ). k < m) made.long h in
      from_place ys 0 n (omega arith) f refl made.each k (omega arith) within d ∙ sym (get_or-tab n value k d within))
