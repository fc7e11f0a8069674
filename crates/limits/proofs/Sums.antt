-- Laws of sums: by recursion on how many numbers are summed. Exchanging two sums is the workhorse of conservation.
use mathlib.Core.Path.{◌≡◌, refl, sym, ap, ◌∙◌}
use mathlib.Core.Bool.{Bool, true, false, cond, ◌||◌}
use mathlib.Core.Logic.{⊎_elim}
use Prim.Native.Nat.{ℕ, zero, suc, ◌+◌, ◌-◌, ◌*◌, ◌≤◌, ◌<◌}
use native.Mathlib.Nat.{not-suc-le-zero, mul-zero, mul-add}
use native.Mathlib.Omega.{arith}
use lib.Dec.{eqb}
use borrow.Author.Tests.{eq-eqb, ne_eqb}
use Rattle.meaning.specs.Words.{for_each, sum, sum_probes}
use Rattle.meaning.specs.Yard.{is_probe}
use Rattle.laws.proofs.Turns.{below-or-last, sum_same, sum-least}
use Rattle.laws.proofs.Walk.{probe-yes, probe-at}

-- what each turn carries on, with the number of turns
pub for_each-counts : {A : Type 0} (P : ℕ → A → Type 0) (n : ℕ) (step : ℕ → A → A) (start : A) → P 0 start
    → ((k : ℕ) → k < n → (a : A) → P k a → P (suc k) (step k a)) → P n (for_each n step start)
unfolding for_each
for_each-counts P zero step start p keep = p
for_each-counts P (suc n) step start p keep =
    keep n (omega arith) (for_each n step start) (for_each-counts P n step start p (λ k h. keep k (omega arith)))

pub sum-zero : (n : ℕ) (f : ℕ → ℕ) → ((k : ℕ) → k < n → f k ≡ 0) → sum n f ≡ 0
unfolding sum
sum-zero zero f e = refl
sum-zero (suc n) f e = omega (arith, sum-zero n f (λ k h. e k (omega arith)), e n (omega arith))

pub sum-add : (n : ℕ) (f g : ℕ → ℕ) → sum n (λ k. f k + g k) ≡ sum n f + sum n g
unfolding sum
sum-add zero f g = refl
sum-add (suc n) f g = omega (arith, sum-add n f g)

pub sum-times : (n c : ℕ) (f : ℕ → ℕ) → sum n (λ k. c * f k) ≡ c * sum n f
unfolding sum
sum-times zero c f = sym (mul-zero c)
sum-times (suc n) c f = ap (λ (x : ℕ). x + c * f n) (sum-times n c f) ∙ sym (mul-add c (sum n f) (f n))

pub zero-either : (b : Bool) → ◌≡◌ {A = ℕ} (cond b 0 0) 0
zero-either true = refl
zero-either false = refl

pub sum-cond : (n : ℕ) (b : Bool) (f : ℕ → ℕ) → sum n (λ k. cond b (f k) 0) ≡ cond b (sum n f) 0
sum-cond n true f = refl
sum-cond n false f = sum-zero n (λ _. 0) (λ k h. refl)

-- two sums, one inside the other, either way round
pub sum-swap : (n m : ℕ) (f : ℕ → ℕ → ℕ) → sum n (λ i. sum m (f i)) ≡ sum m (λ j. sum n (λ i. f i j))
unfolding sum
sum-swap zero m f = sym (sum-zero m (λ _. 0) (λ k h. refl))
sum-swap (suc n) m f =
    ap (λ (x : ℕ). x + sum m (f n)) (sum-swap n m f) ∙ sym (sum-add m (λ j. sum n (λ i. f i j)) (f n))

-- a sum with one term that counts
pub sum-only : (n : ℕ) (f : ℕ → ℕ) (j : ℕ) → j < n → ((k : ℕ) → k < n → (k ≡ j → ⊥) → f k ≡ 0) → sum n f ≡ f j
unfolding sum
sum-only zero f j h none = absurd (not-suc-le-zero h)
sum-only (suc n) f j h none =
    ⊎_elim
    (λ (l : j < n). omega (arith, sum-only n f j l (λ k hk. none k (omega arith)), none n (omega arith) (λ e. omega arith)))
    (λ (l : j ≡ n). omega (arith, sum-zero n f (λ k hk. none k (omega arith) (λ e. omega arith)), ap f l))
    (below-or-last j n h)

-- a sum over the probes with one term that counts
pub probes-only : (p : ℕ) (f : ℕ → ℕ) (v : ℕ) → is_probe p v ≡ true → ((u : ℕ) → (u ≡ v → ⊥) → f u ≡ 0) → sum_probes p f ≡ f v
probes-only p f v h none =
    let at = probe-at p v h in
    sum-only p (λ k. f (k + 2)) (v - 2) at.0 (λ k hk other. none (k + 2) (λ e. other (omega arith))) ∙ ap f at.1

-- what the probes that pass a test have together, by any number that each has; of the children of a node it is the inflow
abbrev pub together : ℕ → (ℕ → Bool) → (ℕ → ℕ) → ℕ
together p test many = sum_probes p (λ v. cond (test v) (many v) 0)

module _ (p : ℕ) (test : ℕ → Bool) where
  pub together-add : (x y : ℕ → ℕ) → together p test (λ v. x v + y v) ≡ together p test x + together p test y
  together-add x y =
      sum_same p (λ k. cond (test (k + 2)) (x (k + 2) + y (k + 2)) 0)
      (λ k. cond (test (k + 2)) (x (k + 2)) 0 + cond (test (k + 2)) (y (k + 2)) 0)
      (λ k _. go (test (k + 2)) (x (k + 2)) (y (k + 2)))
      ∙ sum-add p (λ k. cond (test (k + 2)) (x (k + 2)) 0) (λ k. cond (test (k + 2)) (y (k + 2)) 0)
    where
      go : (b : Bool) (m n : ℕ) → cond b (m + n) 0 ≡ cond b m 0 + cond b n 0
      go true m n = refl
      go false m n = refl

  pub together-none : together p test (λ _. 0) ≡ 0
  together-none = sum-zero p (λ k. cond (test (k + 2)) 0 0) (λ k _. zero-either (test (k + 2)))

  -- more of each is more of all
  pub together-least : (x y : ℕ → ℕ) → ((k : ℕ) → k < p → test (k + 2) ≡ true → x (k + 2) ≤ y (k + 2)) → together p test x ≤ together p test y
  together-least x y le =
      sum-least p (λ k. cond (test (k + 2)) (x (k + 2)) 0) (λ k. cond (test (k + 2)) (y (k + 2)) 0) (λ k h. go k h (test (k + 2)) refl)
    where
      go : (k : ℕ) → k < p → (b : Bool) → test (k + 2) ≡ b → cond b (x (k + 2)) 0 ≤ cond b (y (k + 2)) 0
      go k h true e = le k h e
      go k h false e = omega arith

  pub together-same : (x y : ℕ → ℕ) → ((k : ℕ) → k < p → test (k + 2) ≡ true → x (k + 2) ≡ y (k + 2)) → together p test x ≡ together p test y
  together-same x y e =
      omega (arith, together-least x y (λ k h t. omega (arith, e k h t)), together-least y x (λ k h t. omega (arith, e k h t)))

  -- where one probe alone has one, it is counted if that probe passes
  pub together-one : (u : ℕ) → is_probe p u ≡ true → together p test (λ v. cond (eqb u v) 1 0) ≡ cond (test u) 1 0
  together-one u h =
      probes-only p (λ v. cond (test v) (cond (eqb u v) 1 0) 0) u h
      (λ v other. ap (λ (b : Bool). cond (test v) (cond b 1 0) 0) (ne_eqb u v (λ e. other (sym e))) ∙ zero-either (test v))
      ∙ ap (λ (b : Bool). cond (test u) (cond b 1 0) 0) (eq-eqb u u refl)

-- of one probe alone
pub together-itself : (p : ℕ) (many : ℕ → ℕ) (u : ℕ) → is_probe p u ≡ true → together p (λ v. eqb v u) many ≡ many u
together-itself p many u h =
    probes-only p (λ v. cond (eqb v u) (many v) 0) u h (λ v other. ap (λ (b : Bool). cond b (many v) 0) (ne_eqb v u other))
    ∙ ap (λ (b : Bool). cond b (many u) 0) (eq-eqb u u refl)

-- of those that pass one of two tests, where none passes both
pub together-either : (p : ℕ) (f g : ℕ → Bool) (many : ℕ → ℕ) → ((v : ℕ) → is_probe p v ≡ true → f v ≡ true → g v ≡ false)
    → together p (λ v. f v || g v) many ≡ together p f many + together p g many
together-either p f g many apart =
    sum_same p (λ k. cond (f (k + 2) || g (k + 2)) (many (k + 2)) 0) (λ k. cond (f (k + 2)) (many (k + 2)) 0 + cond (g (k + 2)) (many (k + 2)) 0)
    (λ k h. go (many (k + 2)) (f (k + 2)) (g (k + 2)) (apart (k + 2) (probe-yes p (k + 2) (omega arith) (omega arith))))
    ∙ sum-add p (λ k. cond (f (k + 2)) (many (k + 2)) 0) (λ k. cond (g (k + 2)) (many (k + 2)) 0)
  where
    go : (n : ℕ) (a b : Bool) → (a ≡ true → b ≡ false) → cond (a || b) n 0 ≡ cond a n 0 + cond b n 0
    go n true b one = omega (arith, ap (λ (t : Bool). cond t n 0) (one refl))
    go n false b one = omega arith
