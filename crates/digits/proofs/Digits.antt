-- A word's digits, as they are folded byte by byte: a number that is capped in between says the same as one that is capped at the end.
use Rattle.std.proofs.Common.{◌≡◌, refl, ap, ◌∙◌, ℕ, ◌+◌, ◌-◌, ◌*◌, Bool, not, ◌||◌, List, [], ◌∷◌, fold, arith}
use Rattle.std.specs.List.{list_any}
use Rattle.digits.specs.Digits.{is_digit, others_stand, digits_say, up_to65535, number_said}

pub others-any : (word : List ℕ) → list_any (λ byte. not (is_digit byte)) word ≡ others_stand word
unfolding others_stand
others-any [] = refl
others-any (byte ∷ rest) = ap (λ (b : Bool). not (is_digit byte) || b) (others-any rest)

-- the number behind one digit more, capped
abbrev pub with_digit : (before byte : ℕ) → ℕ
with_digit before byte = up_to65535 (10 * before + (byte - 48))

folded : (before : ℕ) (digits : List ℕ) → fold with_digit (up_to65535 before) digits ≡ up_to65535 (digits_say before digits)
unfolding digits_say
folded before [] = refl
folded before (digit ∷ rest) =
    let next = 10 * before + (digit - 48) in
    let same : with_digit (up_to65535 before) digit ≡ up_to65535 next = omega arith in
    ap (λ (n : ℕ). fold with_digit n rest) same ∙ folded next rest

pub said-folded : (word : List ℕ) → fold with_digit 0 word ≡ number_said word
unfolding number_said
said-folded word = folded 0 word
