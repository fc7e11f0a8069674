-- A number in decimal reads back: by recursion on its digits.
use mathlib.Core.Path.{◌≡◌, refl, sym, ap, ap₂, ◌∙◌, subst}
use mathlib.Core.Bool.{Bool, true, false, cond, not, ◌&&◌, ◌||◌, true≢false}
use mathlib.Core.List.{[], ◌∷◌, ◌++◌}
use Prim.Native.Nat.{ℕ, zero, suc, ◌+◌, ◌-◌, ◌*◌, ◌/◌, ◌%◌, ◌≤◌, ◌<◌, min}
use native.Mathlib.Decide.{dec_lt}
use native.Mathlib.Omega.{arith}
use borrow.Author.Tests.{le-leb, ne_eqb, leb-true}
use lib.Dec.{eqb, leb}
use lib.ListN.{length, get_or, length-append, get_or-append}
use Rattle.meaning.specs.Words.{Bytes}
use Rattle.meaning.specs.Lister.{decimal}
use Rattle.lines.proofs.Decimal.{decimal-none, decimal-last, opened}
use Rattle.digits.specs.Digits.{is_digit, others_stand, digits_say, number_said}
use Rattle.graph.specs.Part.{marks}
use Rattle.graph.specs.Lines.{is_number}

-- digits behind digits
others-append : (xs ys : Bytes) → others_stand (xs ++ ys) ≡ others_stand xs || others_stand ys
unfolding others_stand
others-append [] ys = refl
others-append (x ∷ xs) ys = go (is_digit x) (others-append xs ys)
  where
    go : (b : Bool) → others_stand (xs ++ ys) ≡ others_stand xs || others_stand ys → (not b || others_stand (xs ++ ys)) ≡ ((not b || others_stand xs) || others_stand ys)
    go true e = e
    go false e = refl

say-append : (before : ℕ) (xs ys : Bytes) → digits_say before (xs ++ ys) ≡ digits_say (digits_say before xs) ys
unfolding digits_say
say-append before [] ys = refl
say-append before (x ∷ xs) ys = say-append (10 * before + (x - 48)) xs ys

one-digit : (d : ℕ) → d < 10 → others_stand ((48 + d) ∷ []) ≡ false
unfolding others_stand
one-digit d h = simp (le-leb 48 (48 + d) (omega arith), le-leb (48 + d) 57 (omega (arith, h)))

one-says : (before d : ℕ) → digits_say before ((48 + d) ∷ []) ≡ 10 * before + d
unfolding digits_say
one-says before d = omega arith

-- so many numbers have at most k digits
unfoldable pub tens : ℕ → ℕ
tens zero = 1
tens (suc k) = 10 * tens k

tens-none : tens 0 ≡ 1
unfolding tens
tens-none = refl

tens-five : tens 5 ≡ 100000
unfolding tens
tens-five = refl

tens-more : (k : ℕ) → tens (suc k) ≡ 10 * tens k
unfolding tens
tens-more k = refl

nothing-others : others_stand [] ≡ false
unfolding others_stand
nothing-others = refl

nothing-says : (b : ℕ) → digits_say b [] ≡ b
unfolding digits_say
nothing-says b = refl

pub all_digits : (k n : ℕ) → others_stand (decimal k n) ≡ false
all_digits zero n = ap others_stand (decimal-none 0 n refl) ∙ nothing-others
all_digits (suc k) n = go (dec_lt n 10) (all_digits k (n / 10))
  where
    go : Dec (n < 10) → others_stand (decimal k (n / 10)) ≡ false → others_stand (decimal (suc k) n) ≡ false
    go (yes h) ih = ap others_stand (decimal-last (suc k) n (λ e. omega (arith, e)) h) ∙ one-digit n h
    go (no h) ih =
        ap others_stand (opened k n (omega (arith, h)))
        ∙ others-append (decimal k (n / 10)) ((48 + n % 10) ∷ [])
        ∙ ap₂ ◌||◌ ih (one-digit (n % 10) (omega arith))

pub says-itself : (k n : ℕ) → n < tens k → digits_say 0 (decimal k n) ≡ n
says-itself zero n h = ap (digits_say 0) (decimal-none 0 n refl) ∙ nothing-says 0 ∙ none
  where
    none : 0 ≡ n
    none = omega (arith, h, tens-none)
says-itself (suc k) n h = go (dec_lt n 10) (says-itself k (n / 10))
  where
    go : Dec (n < 10) → (n / 10 < tens k → digits_say 0 (decimal k (n / 10)) ≡ n / 10) → digits_say 0 (decimal (suc k) n) ≡ n
    go (yes l) ih = ap (digits_say 0) (decimal-last (suc k) n (λ e. omega (arith, e)) l) ∙ one-says 0 n ∙ omega arith
    go (no l) ih =
        ap (digits_say 0) (opened k n (omega (arith, l)))
        ∙ say-append 0 (decimal k (n / 10)) ((48 + n % 10) ∷ [])
        ∙ one-says (digits_say 0 (decimal k (n / 10))) (n % 10)
        ∙ ap (λ (b : ℕ). 10 * b + n % 10) (ih (omega (arith, h, tens-more k)))
        ∙ omega arith

-- the first digit of a number above 0 is none
pub leads : (k n : ℕ) → 0 < n → n < tens k → (0 < length (decimal k n)) × (eqb (get_or (decimal k n) 0 0) 48 ≡ false)
leads zero n l h = absurd (omega (arith, l, h, tens-none))
leads (suc k) n l h = go (dec_lt n 10) (leads k (n / 10))
  where
    first : Bytes → Type 0
    first d = (0 < length d) × (eqb (get_or d 0 0) 48 ≡ false)

    longer : (xs ys : Bytes) → first xs → first (xs ++ ys)
    longer xs ys f = (omega (arith, f.0, length-append xs ys), ap (λ (x : ℕ). eqb x 48) (get_or-append xs ys 0 0 f.0) ∙ f.1)

    go : Dec (n < 10) → (0 < n / 10 → n / 10 < tens k → first (decimal k (n / 10))) → first (decimal (suc k) n)
    go (yes s) ih = subst first (sym (decimal-last (suc k) n (λ e. omega (arith, e)) s)) (omega arith, ne_eqb (48 + n) 48 (λ e. omega (arith, e, l)))
    go (no s) ih =
        subst first (sym (opened k n (omega (arith, s))))
        (longer (decimal k (n / 10)) ((48 + n % 10) ∷ []) (ih (omega (arith, s)) (omega (arith, h, tens-more k))))

zero-said : decimal 5 0 ≡ 48 ∷ []
unfolding decimal
zero-said = refl

zero_is : is_number (48 ∷ []) ≡ true
unfolding is_number others_stand
zero_is = refl

number_by : (word : Bytes) → others_stand word ≡ false → 0 < length word → eqb (get_or word 0 0) 48 ≡ false → is_number word ≡ true
unfolding is_number
number_by word others long lead = simp (ne_eqb (length word) 0 (λ e. omega (arith, e, long)), others, lead) (either (eqb (length word) 1))
  where
    either : (b : Bool) → (b || true) ≡ true
    either true = refl
    either false = refl

-- a number in decimal is a number
pub is-number : (n : ℕ) → n < 100000 → is_number (decimal 5 n) ≡ true
is-number n h = go (dec_lt 0 n)
  where
    go : Dec (0 < n) → is_number (decimal 5 n) ≡ true
    go (yes l) = let lead = leads 5 n l (omega (arith, h, tens-five)) in number_by (decimal 5 n) (all_digits 5 n) lead.0 lead.1
    go (no l) =
        let none : n ≡ 0 = omega (arith, l) in
        ap (λ (k : ℕ). is_number (decimal 5 k)) none ∙ ap is_number zero-said ∙ zero_is

-- and says itself
pub said-is : (n : ℕ) → n ≤ 65535 → number_said (decimal 5 n) ≡ n
unfolding number_said
said-is n h = ap (λ (k : ℕ). min k 65535) (says-itself 5 n (omega (arith, h, tens-five))) ∙ omega (arith, h)

-- no mark below the digits stands among them
no-marks : (m : ℕ) (ds : Bytes) → m < 48 → others_stand ds ≡ false → marks m ds ≡ 0
unfolding marks others_stand
no-marks m [] h e = refl
no-marks m (d ∷ ds) h e = go (leb 48 d) refl e (no-marks m ds h)
  where
    go : (b : Bool) → leb 48 d ≡ b → (not (b && leb d 57) || others_stand ds) ≡ false → (others_stand ds ≡ false → marks m ds ≡ 0)
        → cond (eqb d m) (suc (marks m ds)) (marks m ds) ≡ 0
    go true l e ih = rw (ne_eqb d m (λ s. omega (arith, s, h, leb-true 48 d l))) (ih (rest (leb d 57) e))
      where
        rest : (b : Bool) → (not b || others_stand ds) ≡ false → others_stand ds ≡ false
        rest true e = e
        rest false e = absurd (true≢false e)
    go false l e ih = absurd (true≢false e)

pub no-mark : (m k n : ℕ) → m < 48 → marks m (decimal k n) ≡ 0
no-mark m k n h = no-marks m (decimal k n) h (all_digits k n)
