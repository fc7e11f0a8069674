-- How long the text is: a slot's line has seven bytes and three for each sender, since no probe has more than two digits.
use mathlib.Core.Path.{◌≡◌, refl, ap, ◌∙◌}
use mathlib.Core.Bool.{true}
use mathlib.Core.List.{List, [], ◌∷◌, ◌++◌}
use Prim.Native.Nat.{ℕ, suc, ◌+◌, ◌*◌, ◌/◌, ◌≤◌, ◌<◌}
use native.Mathlib.Decide.{dec_lt}
use native.Mathlib.Omega.{arith}
use lib.ListN.{length, get_or, length-append}
use Rattle.meaning.specs.Sheet.{probe_count, parent_of}
use Rattle.meaning.specs.Plan.{slot_bytes}
use Rattle.meaning.specs.Rounds.{moved}
use Rattle.meaning.specs.Answer.{is_accepted, sheet_test}
use Rattle.meaning.specs.Legal.{RunsIn, Runs}
use Rattle.meaning.specs.Lister.{text, decimal, said, senders_text, slot_lines, numbers_line, slot_line}
use Rattle.laws.proofs.Walk.{probe-most}
use Rattle.laws.proofs.Moving.{Each}
use Rattle.laws.proofs.Grounds.{few-probes}
use Rattle.laws.proofs.Running.{at_each}
use Rattle.lines.proofs.Decimal.{decimal-last, length_more, digits-most}
use Rattle.lines.proofs.Lined.{sender-length, refusal-length, numbers-length, slot-length, slot-line}

-- a number below 100 has at most two
two_digits : (n : ℕ) → n < 100 → length (decimal 5 n) ≤ 2
two_digits n h = go (dec_lt n 10)
  where
    go : Dec (n < 10) → length (decimal 5 n) ≤ 2
    go (yes l) = omega (arith, ap length (decimal-last 5 n (λ e. omega arith) l))
    go (no l) = omega (arith, length_more 5 n (λ e. omega arith) (omega arith), ap length (decimal-last 4 (n / 10) (λ e. omega arith) (omega arith)))

senders-most : (senders : List ℕ) → Each (λ v. v < 100) senders → length (senders_text senders) ≤ 3 * length senders
unfolding senders_text Each
senders-most [] small = omega arith
senders-most (v ∷ senders) small =
    omega (arith, length-append (said "" v) (senders_text senders), sender-length v, two_digits v small.0, senders-most senders small.1)

no_lines : (done : ℕ) → length (slot_lines done []) ≡ 0
unfolding slot_lines
no_lines done = refl

-- the lines of slots that run
pub slots-most : (s : List ℕ) → is_accepted (sheet_test s) ≡ true → (slots : List (List ℕ)) (held : List ℕ) (done : ℕ) → Runs s held slots
    → length (slot_lines done slots) ≤ 4 * length slots + 3 * length (slot_bytes slots)
unfolding RunsIn slot_bytes
slots-most s ok [] held done runs = omega (arith, no_lines done)
slots-most s ok (slot ∷ slots) held done runs =
    omega (
      arith,
      ap length (slot-line done slot slots) ∙ length-append (slot_line (suc done) slot) (slot_lines (suc done) slots),
      slot-length (suc done) slot,
      digits-most 5 (suc done),
      senders-most slot (at_each (λ v. v < 100) slot (λ i h. omega (arith, probe-most (probe_count s) (get_or slot i 0) (runs.0.probes i h), few-probes s ok))),
      length-append slot (slot_bytes slots),
      slots-most s ok slots (moved (parent_of s) slot held) (suc done) runs.1,
    )

-- line one, and a refusal's
pub first-most : (a b c d e : ℕ) → length (numbers_line a b c d e) ≤ 67
first-most a b c d e = omega (arith, numbers-length a b c d e, digits-most 5 a, digits-most 5 b, digits-most 5 c, digits-most 5 d, digits-most 5 e)

pub refusal-most : (number place : ℕ) → length (said "refused" number ++ said "" place ++ text "\n") ≤ 20
refusal-most number place = omega (arith, refusal-length number place, digits-most 5 number, digits-most 5 place)
