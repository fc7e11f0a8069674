-- A list that is changed from the front, place by place: what is done stands before i, what is to come behind it; and bytes at the start of a buffer.
use mathlib.Core.Path.{◌≡◌, refl, sym, ap, ◌∙◌, subst}
use mathlib.Core.List.{List}
use Prim.Native.Nat.{ℕ, ◌+◌, ◌≤◌, ◌<◌}
use native.Mathlib.Nat.{add-zero}
use native.Mathlib.Omega.{arith}
use lib.ListN.{length, get_or, take, drop, set, length-append, length-drop, length-set}
use lib.Seq.{drop-set-lt, drop-drop, get_or-drop}
use Rattle.meaning.specs.Words.{tab}
use Rattle.meaning.specs.Plan.{front}
use Rattle.laws.proofs.Turns.{tab-next, tab-full}

-- the list l, as far as place i, in the course of becoming `tab n f`; what it was is l₀
pub record Becoming {A : Type 0} (n i : ℕ) (f : ℕ → A) (l₀ l : List A) : Type 0 where
  pub within : i ≤ n
  pub long : length l ≡ n
  pub done : take i l ≡ tab i f
  pub left : drop i l ≡ drop i l₀

-- what stands at the next place is still what was there
pub next_place : {A : Type 0} (n i : ℕ) (f : ℕ → A) (l₀ l : List A) (d : A) → Becoming n i f l₀ l → get_or l i d ≡ get_or l₀ i d
next_place n i f l₀ l d b =
    ap (λ (k : ℕ). get_or l k d) (sym (add-zero i)) ∙ sym (get_or-drop i l 0 d) ∙ ap (λ (m : List _). get_or m 0 d) b.left ∙ get_or-drop i l₀ 0 d
    ∙ ap (λ (k : ℕ). get_or l₀ k d) (add-zero i)

pub becoming-next : {A : Type 0} (n i : ℕ) (f : ℕ → A) (l₀ l : List A) (a : A) → Becoming n i f l₀ l → i < n → a ≡ f i → Becoming n (i + 1) f l₀ (set l i a)
becoming-next n i f l₀ l a b h e =
    record {
      within = omega arith;
      long = length-set l i a ∙ b.long;
      done = tab-next l i f a (omega (arith, b.long)) b.done e;
      left = drop-set-lt (i + 1) l i a (omega arith) ∙ sym (drop-drop 1 i l) ∙ ap (drop 1) b.left ∙ drop-drop 1 i l₀;
    }

-- at the start nothing is done
pub becoming-start : {A : Type 0} (n : ℕ) (f : ℕ → A) (l : List A) → length l ≡ n → Becoming n 0 f l l
unfolding tab
becoming-start n f l h = record { within = omega arith; long = h; done = refl; left = refl }

-- and at the end all is
pub becoming-whole : {A : Type 0} (n : ℕ) {i : ℕ} (f : ℕ → A) (l₀ l : List A) → Becoming n i f l₀ l → n ≤ i → l ≡ tab n f
becoming-whole n {i} f l₀ l b h =
    let all : n ≡ i = omega (arith, b.within) in
    tab-full l n f b.long (subst (λ (k : ℕ). take k l ≡ tab k f) (sym all) b.done)

-- bytes at its start leave a buffer as long as it was
pub length_front : (d xs : List ℕ) → length xs ≤ length d → length (front d xs) ≡ length d
length_front d xs h = length-append xs (drop (length xs) d) ∙ (rw (length-drop (length xs) d) (omega arith))
