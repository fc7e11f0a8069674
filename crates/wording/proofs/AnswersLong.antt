-- How long an answer can be: part by part, and what a number says has with its senders no more than 80 bytes.
use mathlib.Core.Path.{◌≡◌, refl}
use mathlib.Core.Bool.{Bool, true, false, cond, ◌&&◌}
use mathlib.Core.List.{List, [], ◌++◌}
use Prim.Native.Nat.{ℕ, ◌≤◌, min}
use native.Mathlib.Omega.{arith}
use borrow.Author.Tests.{leb-true, ltb-true}
use lib.Dec.{eqb, ltb}
use lib.ListN.{length}
use Rattle.meaning.specs.declared.Mode.{Mode}
use Rattle.meaning.specs.declared.Mode.TheVariants.{Packets}
use Rattle.meaning.specs.declared.Outcome.{Outcome}
use Rattle.meaning.specs.declared.Planned.{Planned}
use Rattle.meaning.specs.declared.Names.{Names}
use Rattle.meaning.specs.declared.Judgement.{Judgement}
use Rattle.meaning.specs.declared.Choice.{Choice}
use Rattle.meaning.specs.declared.Choice.TheVariants.{Neither, First, Second}
use Rattle.meaning.specs.Answer.{is_accepted}
use Rattle.meaning.specs.Lister.{text, decimal}
use Rattle.lines.proofs.Decimal.{digits-most}
use Rattle.lines.proofs.PartsLong.{Within, counted, both, numbered}
use Rattle.sayings.specs.Saying.{saying_in}
use Rattle.sayings.proofs.WordsLong.{saying-long, saying-short}
use Rattle.wording.specs.Worded.{subject, said_of, one_or_two, any_senders, named_senders, refused_of}
use Rattle.wording.specs.Worded.{refused_line, blamed_line, planned_line, verdict_line, choice_line, choice_text, written_line, misread_line}

-- one of two lines
either : (test : Bool) {xs ys : List ℕ} {a b : ℕ} → a ≤ b → Within xs a → Within ys b → Within (cond test xs ys) b
either true order h k = record { short = omega (arith, order, h.short) }
either false order h k = k

-- with the senders before it, what 12 to 15 say is no longer than what the others say
said-long : (mode : Mode) (number : ℕ) {senders : List ℕ} → Within senders 37 → Within (said_of mode number senders) 80
unfolding subject
said-long mode number {senders} h = go (ltb 11 number) (ltb number 16) refl refl
  where
    go : (low high : Bool) → ltb 11 number ≡ low → ltb number 16 ≡ high → Within (cond (low && high) senders [] ++ saying_in mode number) 80
    go true true p q = both h (record { short = saying-short mode number (ltb-true 11 number p) (ltb-true number 16 q) })
    go true false p q = record { short = saying-long mode number }
    go false high p q = record { short = saying-long mode number }

any-long : (number : ℕ) → Within (any_senders number) 37
unfolding text one_or_two
any-long number = either (eqb number 15) (leb-true 37 37 refl) (counted refl) (counted refl)

named-long : (outcome : Outcome) (names : Names) → Within (named_senders outcome names) 37
unfolding text one_or_two
named-long outcome names =
    let two = both (numbered {a = 7} "senders" names.first (counted refl)) (numbered {a = 4} " and" names.second (counted refl)) in
    let one = numbered {a = 17} "sender" names.first (counted refl) in
    both (either (eqb outcome.number 15) (leb-true 23 23 refl) two one) (numbered {a = 8} " of slot" outcome.place (counted refl))

-- the lines and the text
refused-of-long : (mode : Mode) (outcome : Outcome) {senders : List ℕ} → Within senders 37 → Within (refused_of mode outcome senders) 102
unfolding text
refused-of-long mode outcome h =
    let number = numbered {a = 7} "refused" outcome.number (counted refl) in
    let place = numbered {a = 0} "" outcome.place (counted refl) in
    let before = both (both number place) (counted {bytes = text ": "} {most = 2} refl) in
    both (both before (said-long mode outcome.number h)) (counted {bytes = text "\n"} {most = 1} refl)

refused-long : (outcome : Outcome) → Within (refused_line outcome) 102
unfolding refused_line
refused-long outcome = refused-of-long Packets outcome (any-long outcome.number)

blamed-long : (mode : Mode) (outcome : Outcome) (names : Names) → Within (blamed_line mode outcome names) 102
unfolding blamed_line
blamed-long mode outcome names = refused-of-long mode outcome (named-long outcome names)

planned-long : (planned : Planned) → Within (planned_line planned) 102
unfolding text planned_line
planned-long planned =
    let slots = numbered {a = 7} "planned" planned.slots (counted refl) in
    let colours = numbered {a = 7} " slots," planned.colours (counted refl) in
    let bytes = numbered {a = 9} " colours," (min planned.bytes 65535) (counted refl) in
    let line = both (both (both slots colours) bytes) (counted {bytes = text " bytes\n"} {most = 7} refl) in
    either (is_accepted planned.outcome) (leb-true 48 102 refl) line (refused-long planned.outcome)

verdict-long : (mode : Mode) (judgement : Judgement) → Within (verdict_line mode judgement) 102
unfolding text verdict_line
verdict-long mode judgement =
    let outcome = judgement.verdict.outcome in
    let line = both (numbered {a = 6} "passed" judgement.verdict.slots (counted refl)) (counted {bytes = text " slots\n"} {most = 7} refl) in
    either (is_accepted outcome) (leb-true 19 102 refl) line (blamed-long mode outcome judgement.names)

choice-long : (choice : Choice) → Within (choice_line choice) 8
unfolding text
choice-long First = counted refl
choice-long Second = counted refl
choice-long Neither = counted refl

chosen-long : (choice : Choice) (first second : Judgement) → Within (choice_text choice first second) 227
unfolding text choice_text
chosen-long choice first second =
    let before = counted {bytes = text "first: "} {most = 7} refl in
    let between = counted {bytes = text "second: "} {most = 8} refl in
    both (both (both (both (choice-long choice) before) (verdict-long Packets first)) between) (verdict-long Packets second)

written-long : (outcome : Outcome) (bytes : ℕ) → Within (written_line outcome bytes) 102
unfolding text written_line
written-long outcome bytes =
    let word = counted {bytes = text "written "} {most = 8} refl in
    let digits : Within (decimal 20 bytes) 20 = record { short = digits-most 20 bytes } in
    let line = both (both word digits) (counted {bytes = text " bytes\n"} {most = 7} refl) in
    either (is_accepted outcome) (leb-true 35 102 refl) line (refused-long outcome)

misread-long : (number place : ℕ) → Within (misread_line number place) 117
unfolding text misread_line
misread-long number place =
    let first = numbered {a = 7} "refused" number (counted refl) in
    let line : Within (decimal 20 place) 20 = record { short = digits-most 20 place } in
    let before = both (both first (counted {bytes = text " "} {most = 1} refl)) line in
    let colon = both before (counted {bytes = text ": "} {most = 2} refl) in
    both (both colon (said-long Packets number (any-long number))) (counted {bytes = text "\n"} {most = 1} refl)

-- so any answer fits into 256 bytes
pub refused-most : (outcome : Outcome) → length (refused_line outcome) ≤ 256
refused-most outcome = omega (arith, (refused-long outcome).short)

pub planned-most : (planned : Planned) → length (planned_line planned) ≤ 256
planned-most planned = omega (arith, (planned-long planned).short)

pub verdict-most : (mode : Mode) (judgement : Judgement) → length (verdict_line mode judgement) ≤ 256
verdict-most mode judgement = omega (arith, (verdict-long mode judgement).short)

pub chosen-most : (choice : Choice) (first second : Judgement) → length (choice_text choice first second) ≤ 256
chosen-most choice first second = omega (arith, (chosen-long choice first second).short)

pub written-most : (outcome : Outcome) (bytes : ℕ) → length (written_line outcome bytes) ≤ 256
written-most outcome bytes = omega (arith, (written-long outcome bytes).short)

pub misread-most : (number place : ℕ) → length (misread_line number place) ≤ 256
misread-most number place = omega (arith, (misread-long number place).short)
