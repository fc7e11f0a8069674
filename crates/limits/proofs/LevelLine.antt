-- The levels of a yard form a line: what the probes of a level receive is what the next level out sends, and every level up to the deepest has a
-- probe. Level l stands at place l + 1 of the line, so that the gateway is at 1 and the levels of probes from 2 on.
use mathlib.Core.Path.{◌≡◌, refl, sym, ap, ◌∙◌}
use mathlib.Core.Bool.{Bool, true, false, cond}
use mathlib.Core.Logic.{◌≢◌, ⊎_elim}
use mathlib.Core.List.{List}
use Prim.Native.Nat.{ℕ, zero, suc, ◌+◌, ◌-◌, ◌≤◌, ◌<◌, max}
use native.Mathlib.Nat.{not-suc-le-zero}
use native.Mathlib.Decide.{dec_le, dec_lt}
use native.Mathlib.Omega.{arith}
use lib.Dec.{eqb, leb}
use borrow.Author.Tests.{eq-eqb, ne_eqb, le-leb, lt-leb}
use Rattle.meaning.specs.Words.{sum, sum_probes, most}
use Rattle.meaning.specs.Yard.{is_probe, climb}
use Rattle.meaning.specs.Sheet.{probe_count, parent_of, level_of}
use Rattle.meaning.specs.Colour.{depth}
use Rattle.meaning.specs.Answer.{is_accepted, sheet_test}
use Rattle.laws.proofs.Turns.{sum_same, same-or-other}
use Rattle.laws.proofs.Walk.{probe-yes, probe-least, probe-most, probe-below, probe-at}
use Rattle.laws.proofs.Slots.{true-or-false}
use Rattle.laws.proofs.Grounds as Grounds
use Rattle.laws.proofs.Levels as Levels
use Rattle.limits.specs.Sent.{inflow}
use Rattle.limits.proofs.Sums.{zero-either, sum-zero, sum-add, sum-swap, sum-cond, probes-only}
use Rattle.limits.proofs.Served.{inflow-part}
use Rattle.limits.proofs.AcceptedYard as Yard

eqb_same : (a b c d : ℕ) → (a ≡ b → c ≡ d) → (c ≡ d → a ≡ b) → eqb a b ≡ eqb c d
eqb_same a b c d to from =
    ⊎_elim (λ (e : a ≡ b). eq-eqb a b e ∙ sym (eq-eqb c d (to e))) (λ (n : a ≢ b). ne_eqb a b n ∙ sym (ne_eqb c d (λ e. n (from e))))
    (same-or-other a b)

-- the most is one of them
most-where : (n : ℕ) (f : ℕ → ℕ) → 1 ≤ most n f → (k : ℕ) × (k < n) × (f k ≡ most n f)
unfolding most
most-where zero f h = absurd (not-suc-le-zero h)
most-where (suc n) f h = go (dec_le (most n f) (f n)) (most-where n f)
  where
    go : Dec (most n f ≤ f n) → (1 ≤ most n f → (k : ℕ) × (k < n) × (f k ≡ most n f)) → (k : ℕ) × (k < suc n) × (f k ≡ max (most n f) (f n))
    go (yes l) before = (n, omega arith, omega arith)
    go (no l) before = let found = before (omega arith) in (found.0, omega (arith, found.1), omega (arith, found.2))

-- some part of a sum that is not 0 is not 0
pub sum-where : (n : ℕ) (f : ℕ → ℕ) → 1 ≤ sum n f → (k : ℕ) × (k < n) × (1 ≤ f k)
unfolding sum
sum-where zero f h = absurd (not-suc-le-zero h)
sum-where (suc n) f h = go (dec_le 1 (f n)) (sum-where n f)
  where
    go : Dec (1 ≤ f n) → (1 ≤ sum n f → (k : ℕ) × (k < n) × (1 ≤ f k)) → (k : ℕ) × (k < suc n) × (1 ≤ f k)
    go (yes l) before = (n, omega arith, l)
    go (no l) before = let found = before (omega arith) in (found.0, omega (arith, found.1), found.2)

-- along a line the next one out is the only child
pub line-flow : (n : ℕ) (many : ℕ → ℕ) (at : ℕ) → is_probe n at ≡ true → many (n + 2) ≡ 0 → inflow n (λ m. m - 1) many at ≡ many (at + 1)
unfolding inflow
line-flow n many at h none =
    let least = probe-least n at h in
    let last = probe-most n at h in
    ⊎_elim
    (λ (e : at ≡ n + 1).
    sum-zero n (λ k. cond (eqb (k + 2 - 1) at) (many (k + 2)) 0)
    (λ k hk. ap (λ (b : Bool). cond b (many (k + 2)) 0) (ne_eqb (k + 2 - 1) at (λ q. omega arith)))
    ∙ sym none ∙ ap many (omega arith))
    (λ (e : at ≢ n + 1).
    probes-only n (λ m. cond (eqb (m - 1) at) (many m) 0) (at + 1) (probe-yes n (at + 1) (omega arith) (omega arith))
    (λ u other. ap (λ (b : Bool). cond b (many u) 0) (ne_eqb (u - 1) at (λ q. other (omega arith))))
    ∙ ap (λ (b : Bool). cond b (many (at + 1)) 0) (eq-eqb (at + 1 - 1) at (omega arith)))
    (same-or-other at (n + 1))

module _ (s : List ℕ) (ok : is_accepted (sheet_test s) ≡ true) where
  level-outside : (v : ℕ) → is_probe (probe_count s) v ≡ false → level_of s v ≡ 0
  unfolding level_of
  level-outside v h = ap (λ (b : Bool). cond b (climb (parent_of s) (probe_count s) v) 0) h

  level-probe : (v : ℕ) → 1 ≤ level_of s v → is_probe (probe_count s) v ≡ true
  level-probe v h =
      ⊎_elim (λ (e : is_probe (probe_count s) v ≡ true). e) (λ (e : is_probe (probe_count s) v ≡ false). absurd (omega (arith, level-outside v e)))
      (true-or-false (is_probe (probe_count s) v))

  -- each level up to the deepest has a probe
  on-level : (j : ℕ) → j < depth s → (v : ℕ) × (is_probe (probe_count s) v ≡ true) × (level_of s v + j ≡ depth s)
  unfolding depth
  on-level zero h =
      let found = most-where (probe_count s) (λ k. level_of s (k + 2)) h in
      (found.0 + 2, probe-yes (probe_count s) (found.0 + 2) (omega arith) (omega (arith, found.1)), omega (arith, found.2))
  on-level (suc j) h =
      let found = on-level j (omega arith) in
      let up = Grounds.level-up s ok found.0 found.1 in
      (parent_of s found.0, level-probe (parent_of s found.0) (omega (arith, found.2, up)), omega (arith, found.2, up))

  pub every-level : (l : ℕ) → 1 ≤ l → l ≤ depth s → (v : ℕ) × (is_probe (probe_count s) v ≡ true) × (level_of s v ≡ l)
  every-level l from to =
      let found = on-level (depth s - l) (omega arith) in
      (found.0, found.1, omega (arith, found.2))

  -- what the probes at a place of the line have together
  abbrev pub on_line : (ℕ → ℕ) → ℕ → ℕ
  on_line many at = inflow (probe_count s) (λ v. level_of s v + 1) many at

  -- the children of the probes of a level are the probes of the next
  received : (many : ℕ → ℕ) (at c : ℕ) → 2 ≤ at → is_probe (probe_count s) c ≡ true
      → sum_probes (probe_count s) (λ v. cond (eqb (level_of s v + 1) at) (cond (eqb (parent_of s c) v) (many c) 0) 0) ≡ cond (eqb (level_of s c + 1) (at + 1)) (many c) 0
  received many at c low h =
      let up = Yard.inside s ok c h in
      let one_up = Grounds.level-up s ok c h in
      ⊎_elim
      (λ (e : parent_of s c ≡ 1).
      let none : level_of s (parent_of s c) ≡ 0 = level-outside (parent_of s c) (probe-below (probe_count s) (parent_of s c) (omega arith)) in
      sum-zero (probe_count s) (λ i. cond (eqb (level_of s (i + 2) + 1) at) (cond (eqb (parent_of s c) (i + 2)) (many c) 0) 0)
      (λ i _.
      ap (λ (b : Bool). cond (eqb (level_of s (i + 2) + 1) at) (cond b (many c) 0) 0) (ne_eqb (parent_of s c) (i + 2) (λ q. omega arith))
      ∙ zero-either (eqb (level_of s (i + 2) + 1) at))
      ∙ sym (ap (λ (b : Bool). cond b (many c) 0) (ne_eqb (level_of s c + 1) (at + 1) (λ q. omega (arith, one_up, none)))))
      (λ (n : parent_of s c ≢ 1).
      probes-only (probe_count s) (λ v. cond (eqb (level_of s v + 1) at) (cond (eqb (parent_of s c) v) (many c) 0) 0) (parent_of s c)
      (probe-yes (probe_count s) (parent_of s c) (omega (arith, up.0)) up.1)
      (λ u other.
      ap (λ (b : Bool). cond (eqb (level_of s u + 1) at) (cond b (many c) 0) 0) (ne_eqb (parent_of s c) u (λ e. other (sym e)))
      ∙ zero-either (eqb (level_of s u + 1) at))
      ∙ ap (λ (b : Bool). cond (eqb (level_of s (parent_of s c) + 1) at) (cond b (many c) 0) 0) (eq-eqb (parent_of s c) (parent_of s c) refl)
      ∙ ap (λ (b : Bool). cond b (many c) 0)
      (eqb_same (level_of s (parent_of s c) + 1) at (level_of s c + 1) (at + 1) (λ e. omega (arith, one_up)) (λ e. omega (arith, one_up))))
      (same-or-other (parent_of s c) 1)

  -- what a level receives, the next level out sends
  pub level-flow : (many : ℕ → ℕ) (at : ℕ) → 2 ≤ at → on_line (inflow (probe_count s) (parent_of s) many) at ≡ on_line many (at + 1)
  unfolding inflow
  level-flow many at low =
      sum_same (probe_count s) (λ i. cond (eqb (level_of s (i + 2) + 1) at) (sum (probe_count s) (λ j. cond (eqb (parent_of s (j + 2)) (i + 2)) (many (j + 2)) 0)) 0)
      (λ i. sum (probe_count s) (λ j. both i j))
      (λ i _. sym (sum-cond (probe_count s) (eqb (level_of s (i + 2) + 1) at) (λ j. cond (eqb (parent_of s (j + 2)) (i + 2)) (many (j + 2)) 0)))
      ∙ sum-swap (probe_count s) (probe_count s) both
      ∙ sum_same (probe_count s) (λ j. sum (probe_count s) (λ i. both i j)) (λ j. cond (eqb (level_of s (j + 2) + 1) (at + 1)) (many (j + 2)) 0)
      (λ j hj. received many at (j + 2) low (probe-yes (probe_count s) (j + 2) (omega arith) (omega arith)))
    where
      both : ℕ → ℕ → ℕ
      both i j = cond (eqb (level_of s (i + 2) + 1) at) (cond (eqb (parent_of s (j + 2)) (i + 2)) (many (j + 2)) 0) 0

  -- nothing is past the deepest
  pub line-end : (many : ℕ → ℕ) → on_line many (depth s + 2) ≡ 0
  unfolding inflow
  line-end many =
      sum-zero (probe_count s) (λ k. cond (eqb (level_of s (k + 2) + 1) (depth s + 2)) (many (k + 2)) 0)
      (λ k hk.
      ap (λ (b : Bool). cond b (many (k + 2)) 0)
      (ne_eqb (level_of s (k + 2) + 1) (depth s + 2) (λ e. omega (arith, Levels.level-deep s ok k hk))))

  -- the probes next to the gateway are those of level 1
  pub line_first : (many : ℕ → ℕ) → on_line many 2 ≡ inflow (probe_count s) (parent_of s) many 1
  unfolding inflow
  line_first many =
      sum_same (probe_count s) (λ k. cond (eqb (level_of s (k + 2) + 1) 2) (many (k + 2)) 0) (λ k. cond (eqb (parent_of s (k + 2)) 1) (many (k + 2)) 0)
      (λ k hk.
      let c : ℕ = k + 2 in
      let probe : is_probe (probe_count s) c ≡ true = probe-yes (probe_count s) c (omega arith) (omega arith) in
      let up = Yard.inside s ok c probe in
      let one_up = Grounds.level-up s ok c probe in
      ap (λ (b : Bool). cond b (many c) 0)
      (eqb_same (level_of s c + 1) 2 (parent_of s c) 1
      (λ e.
      ⊎_elim (λ (q : parent_of s c ≡ 1). q)
      (λ (n : parent_of s c ≢ 1).
      absurd (omega (arith, one_up, Grounds.level-least s ok (parent_of s c) (probe-yes (probe_count s) (parent_of s c) (omega (arith, up.0)) up.1))))
      (same-or-other (parent_of s c) 1))
      (λ e. omega (arith, one_up, level-outside (parent_of s c) (probe-below (probe_count s) (parent_of s c) (omega arith))))))

  -- what is at a place of the line and beyond
  abbrev pub from_line : (ℕ → ℕ) → ℕ → ℕ
  from_line many at = sum_probes (probe_count s) (λ v. cond (leb at (level_of s v + 1)) (many v) 0)

  -- a place, and what is beyond it
  here-or-beyond : (a at x : ℕ) → cond (leb at a) x 0 ≡ cond (eqb a at) x 0 + cond (leb (at + 1) a) x 0
  here-or-beyond a at x =
      ⊎_elim
      (λ (e : a ≡ at).
      let u : cond (leb at a) x 0 ≡ x = ap (λ (b : Bool). cond b x 0) (le-leb at a (omega arith)) in
      let v : cond (eqb a at) x 0 ≡ x = ap (λ (b : Bool). cond b x 0) (eq-eqb a at e) in
      let w : cond (leb (at + 1) a) x 0 ≡ 0 = ap (λ (b : Bool). cond b x 0) (lt-leb (at + 1) a (omega arith)) in
      omega (arith, u, v, w))
      (λ (n : a ≢ at).
      let v : cond (eqb a at) x 0 ≡ 0 = ap (λ (b : Bool). cond b x 0) (ne_eqb a at n) in
      go n v (dec_lt a at))
      (same-or-other a at)
    where
      go : a ≢ at → cond (eqb a at) x 0 ≡ 0 → Dec (a < at) → cond (leb at a) x 0 ≡ cond (eqb a at) x 0 + cond (leb (at + 1) a) x 0
      go n v (yes l) =
          let u : cond (leb at a) x 0 ≡ 0 = ap (λ (b : Bool). cond b x 0) (lt-leb at a l) in
          let w : cond (leb (at + 1) a) x 0 ≡ 0 = ap (λ (b : Bool). cond b x 0) (lt-leb (at + 1) a (omega arith)) in
          omega (arith, u, v, w)
      go n v (no l) =
          let u : cond (leb at a) x 0 ≡ x = ap (λ (b : Bool). cond b x 0) (le-leb at a (omega arith)) in
          let w : cond (leb (at + 1) a) x 0 ≡ x = ap (λ (b : Bool). cond b x 0) (le-leb (at + 1) a (omega arith)) in
          omega (arith, u, v, w)

  pub line-parts : (many : ℕ → ℕ) (at : ℕ) → from_line many at ≡ on_line many at + from_line many (at + 1)
  unfolding inflow
  line-parts many at =
      sum_same (probe_count s) (λ k. cond (leb at (level_of s (k + 2) + 1)) (many (k + 2)) 0)
      (λ k. cond (eqb (level_of s (k + 2) + 1) at) (many (k + 2)) 0 + cond (leb (at + 1) (level_of s (k + 2) + 1)) (many (k + 2)) 0)
      (λ k _. here-or-beyond (level_of s (k + 2) + 1) at (many (k + 2)))
      ∙ sum-add (probe_count s) (λ k. cond (eqb (level_of s (k + 2) + 1) at) (many (k + 2)) 0) (λ k. cond (leb (at + 1) (level_of s (k + 2) + 1)) (many (k + 2)) 0)

  pub from_end : (many : ℕ → ℕ) → from_line many (depth s + 2) ≡ 0
  from_end many =
      sum-zero (probe_count s) (λ k. cond (leb (depth s + 2) (level_of s (k + 2) + 1)) (many (k + 2)) 0)
      (λ k hk.
      ap (λ (b : Bool). cond b (many (k + 2)) 0)
      (lt-leb (depth s + 2) (level_of s (k + 2) + 1) (omega (arith, Levels.level-deep s ok k hk))))

  pub from_first : (many : ℕ → ℕ) → from_line many 2 ≡ sum_probes (probe_count s) many
  from_first many =
      sum_same (probe_count s) (λ k. cond (leb 2 (level_of s (k + 2) + 1)) (many (k + 2)) 0) (λ k. many (k + 2))
      (λ k hk.
      ap (λ (b : Bool). cond b (many (k + 2)) 0)
      (le-leb 2 (level_of s (k + 2) + 1) (omega (arith, Grounds.level-least s ok (k + 2) (probe-yes (probe_count s) (k + 2) (omega arith) (omega arith))))))

  -- every level has a packet, if every probe has
  pub line-some : (many : ℕ → ℕ) → ((v : ℕ) → is_probe (probe_count s) v ≡ true → 1 ≤ many v) → (at : ℕ) → is_probe (depth s) at ≡ true → 1 ≤ on_line many at
  line-some many some at h =
      let least = probe-least (depth s) at h in
      let last = probe-most (depth s) at h in
      let found = every-level (at - 1) (omega arith) (omega arith) in
      let v = found.0 in
      let place = probe-at (probe_count s) v found.1 in
      let stands : level_of s (v - 2 + 2) + 1 ≡ at = omega (arith, ap (level_of s) place.1, found.2) in
      omega (
        arith,
        inflow-part (probe_count s) (λ u. level_of s u + 1) many at (v - 2) place.0 (eq-eqb (level_of s (v - 2 + 2) + 1) at stands),
        some v found.1,
        ap many place.1,
      )
