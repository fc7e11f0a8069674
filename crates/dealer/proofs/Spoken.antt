-- Which sentences an answer has, and how long they can be: part by part.
use mathlib.Core.Path.{◌≡◌, refl}
use mathlib.Core.Bool.{Bool, true, false, cond}
use mathlib.Core.List.{List, [], ◌++◌}
use Prim.Native.Nat.{ℕ, ◌+◌, ◌/◌, ◌%◌, ◌≤◌, ◌<◌}
use native.Mathlib.Omega.{arith}
use borrow.Author.Tests.{eq-eqb, ne_eqb, lt-ltb, le-ltb}
use lib.Dec.{eqb, ltb}
use lib.ListN.{length}
use Rattle.meaning.specs.declared.Outcome.{Outcome}
use Rattle.meaning.specs.declared.Told.{Told}
use Rattle.meaning.specs.declared.MergedTold.{MergedTold}
use Rattle.meaning.specs.Lister.{text, decimal}
use Rattle.wording.specs.Worded.{refused_line}
use Rattle.lines.proofs.PartsLong.{Within, counted, both, numbered, digits_long}
use Rattle.dealer.specs.SlotLength.{down, up, seconds_of}
use Rattle.dealer.specs.Sentences.{minutes, timed, at_least, least_said, merged_said, ours_said, most_said, nobody_said, sentences, merged_sentences, spread_text, or_refused}

-- a slot's length is known, or not
module _ (slots ms rounding : ℕ) where
  pub time-said : (ms ≡ 0 → ⊥) → minutes (seconds_of slots ms rounding) ≡ timed slots ms rounding
  unfolding timed
  time-said known = rw (ne_eqb ms 0 known)

  pub time-unsaid : ms ≡ 0 → [] ≡ timed slots ms rounding
  unfolding timed
  time-unsaid none = rw (eq-eqb ms 0 none)

-- our plan is longer than the least, or not
module _ (least ours times : ℕ) where
  pub part-said : least < ours → text " Nobody's plan can be less than 1/" ++ decimal 5 times ++ text " of ours.\n" ≡ nobody_said least ours times
  unfolding nobody_said
  part-said longer = rw (lt-ltb least ours longer)

  pub none-shorter : ours ≤ least → text " Nobody's plan is shorter.\n" ≡ nobody_said least ours times
  unfolding nobody_said
  none-shorter least-slots = rw (le-ltb least ours least-slots)

-- an answer, or the line of a refusal
module _ (outcome : Outcome) (answer : List ℕ) where
  pub refused-told : (outcome.number ≡ 0 → ⊥) → or_refused outcome answer ≡ refused_line outcome
  refused-told ne = rw (ne_eqb outcome.number 0 ne)

  pub answer-told : outcome.number ≡ 0 → or_refused outcome answer ≡ answer
  answer-told e = rw (eq-eqb outcome.number 0 e)

-- how long each part can be
time-long : (slots ms rounding : ℕ) → Within (timed slots ms rounding) 20
unfolding text timed
time-long slots ms rounding = go (eqb ms 0)
  where
    go : (b : Bool) → Within (cond b [] (minutes (seconds_of slots ms rounding))) 20
    go true = counted refl
    go false =
        let all : ℕ = seconds_of slots ms rounding in
        both (both (both (counted {bytes = text " ("} {most = 2} refl) (digits_long (all / 60))) (numbered {a = 4} " min" (all % 60) (counted refl)))
        (counted {bytes = text " s)"} {most = 3} refl)

at-least-long : {a : ℕ} {reading : List ℕ} (slots ms : ℕ) → Within reading a → Within (at_least reading slots ms) (a + 21 + 6 + 20 + 19)
unfolding text
at-least-long slots ms h =
    both
    (both (both (both h (numbered {a = 15} " takes at least" slots (counted refl))) (counted {bytes = text " slots"} {most = 6} refl))
    (time-long slots ms down))
    (counted {bytes = text ", whoever plans it."} {most = 19} refl)

least-long : (slots ms : ℕ) → Within (least_said slots ms) 77
unfolding text least_said
least-long slots ms = at-least-long slots ms (counted {bytes = text "One reading"} {most = 11} refl)

merged-long : (slots ms : ℕ) → Within (merged_said slots ms) 84
unfolding text merged_said
merged-long slots ms = at-least-long slots ms (counted {bytes = text "One merged reading"} {most = 18} refl)

ours-long : (slots ms : ℕ) → Within (ours_said slots ms) 42
unfolding text ours_said
ours-long slots ms =
    both (both (numbered {a = 15} " Our plan takes" slots (counted refl)) (time-long slots ms up)) (counted {bytes = text "."} {most = 1} refl)

most-long : (slots ms : ℕ) → Within (most_said slots ms) 52
unfolding text most_said
most-long slots ms =
    both (both (numbered {a = 25} " It never takes more than" slots (counted refl)) (time-long slots ms up)) (counted {bytes = text "."} {most = 1} refl)

nobody-long : (least ours times : ℕ) → Within (nobody_said least ours times) 49
unfolding text nobody_said
nobody-long least ours times = go (ltb least ours)
  where
    go : (b : Bool) → Within (cond b (text " Nobody's plan can be less than 1/" ++ decimal 5 times ++ text " of ours.\n") (text " Nobody's plan is shorter.\n")) 49
    go true =
        both (both (counted {bytes = text " Nobody's plan can be less than 1/"} {most = 34} refl) (digits_long times))
        (counted {bytes = text " of ours.\n"} {most = 10} refl)
    go false = counted refl

pub sentences-most : (told : Told) (ms : ℕ) → length (sentences told ms) ≤ 256
unfolding sentences
sentences-most told ms =
    let slots = both (both (least-long told.least ms) (ours-long told.ours ms)) (most-long told.most ms) in
    let all = both slots (nobody-long told.least told.ours told.times) in
    omega (arith, all.short)

pub merged-most : (told : MergedTold) (ms : ℕ) → length (merged_sentences told ms) ≤ 256
unfolding text merged_sentences
merged-most told ms =
    let slots = both (both (merged-long told.least ms) (ours-long told.ours ms)) (most-long told.most ms) in
    let all = both slots (counted {bytes = text "\n"} {most = 1} refl) in
    omega (arith, all.short)

pub spread-most : (best worst : ℕ) → length (spread_text best worst) ≤ 256
unfolding text spread_text
spread-most best worst =
    let first = numbered {a = 68} "The same probes, hung otherwise and disturbing each other otherwise:" best (counted refl) in
    let all = both (both first (numbered {a = 15} " slots at best," worst (counted refl))) (counted {bytes = text " at worst.\n"} {most = 11} refl) in
    omega (arith, all.short)
