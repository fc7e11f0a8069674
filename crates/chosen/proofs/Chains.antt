-- What `from_fn` gives, told in the meaning's words: by recursion on how many places are left, since the closure stays as it is.
use mathlib.Core.Path.{◌≡◌, sym, ap, ◌∙◌, subst}
use mathlib.Core.List.{List}
use Prim.Native.Nat.{ℕ, zero, suc, ◌+◌, ◌≤◌, ◌<◌}
use native.Mathlib.Decide.{dec_lt}
use native.Mathlib.Omega.{arith}
use lib.ListN.{get_or}
use denote.Param.Members.{Mut}
use Rattle.std.specs.Array.{IsFromFnResultFrom, IsFromFnResult}
use Rattle.std.specs.Fn.{Called}
use Rattle.std.proofs.lemmas.List.FromFn.{fill_by_all}
use Rattle.meaning.specs.Words.{tab}
use Rattle.laws.proofs.Turns.{length-tab, get_or-tab}

-- what `from_fn` makes of a closure that stays as it is
module _ {F B : Type 0} (g : Mut F (ℕ × Unit {0}) B) (f : ℕ → B) (h : F) (gives : (i : ℕ) (y : B) (q : F) → Called g h (i, tt) y q → (q ≡ h) × (y ≡ f i)) where
  made-from : (ys : List B) (n i : ℕ) → IsFromFnResultFrom g h ys i n → (k : ℕ) (d : B) → i ≤ k → k < i + n → get_or ys k d ≡ f k
  made-from ys zero i all k d from few = absurd (omega arith)
  made-from ys (suc n) i all k d from few = go (made-from ys n (i + 1)) (dec_lt i k)
    where
      here : (all.0 ≡ h) × (all.1 ≡ f i)
      here = gives i all.1 all.0 all.3

      go : (IsFromFnResultFrom g h ys (i + 1) n → (j : ℕ) (e : B) → i + 1 ≤ j → j < i + 1 + n → get_or ys j e ≡ f j) → Dec (i < k) → get_or ys k d ≡ f k
      go rest (yes l) = rest (subst (λ (q : F). IsFromFnResultFrom g q ys (i + 1) n) here.0 all.4) k d (omega arith) (omega arith)
      go rest (no l) = let same : k ≡ i = omega arith in ap (λ (j : ℕ). get_or ys j d) same ∙ all.2.1 d ∙ here.1 ∙ ap f (sym same)

  pub made : (n : ℕ) (ys : List B) (d : B) → IsFromFnResult g h ys n → ys ≡ tab n f
  made n ys d all =
      fill_by_all f ys n d all.long (λ k l. made-from ys n 0 all.each k d (omega arith) (omega arith))
      ∙ sym (fill_by_all f (tab n f) n d (length-tab n f) (λ k l. get_or-tab n f k d l))
