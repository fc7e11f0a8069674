-- RULES, "The answers in words": what is said on the telephone, four sentences, of merged readings three, with minutes and seconds where a slot's length is known.
use Rattle.std.specs.Prelude.{cond, [], ◌++◌, ℕ, ◌/◌, ◌%◌, eqb, ltb}
use Rattle.meaning.specs.declared.Outcome.{Outcome}
use Rattle.meaning.specs.declared.Told.{Told}
use Rattle.meaning.specs.declared.MergedTold.{MergedTold}
use Rattle.meaning.specs.Words.{Bytes}
use Rattle.meaning.specs.Answer.{is_accepted}
use Rattle.meaning.specs.Lister.{text, decimal, said}
use Rattle.wording.specs.Worded.{refused_line}
use Rattle.dealer.specs.SlotLength.{down, up, seconds_of}

-- seconds, as minutes and seconds in brackets
abbrev pub minutes : (seconds : ℕ) → Bytes
minutes seconds = text " (" ++ decimal 5 (seconds / 60) ++ said " min" (seconds % 60) ++ text " s)"

-- how long so many slots take; nothing where a slot's length is not known
unfoldable pub timed : (slots ms rounding : ℕ) → Bytes
timed slots ms rounding = cond (eqb ms 0) [] (minutes (seconds_of slots ms rounding))

-- no plan for such a reading takes fewer slots: the time is rounded down
abbrev pub at_least : (reading : Bytes) → (slots ms : ℕ) → Bytes
at_least reading slots ms = reading ++ said " takes at least" slots ++ text " slots" ++ timed slots ms down ++ text ", whoever plans it."

unfoldable pub least_said : (slots ms : ℕ) → Bytes
least_said slots ms = at_least (text "One reading") slots ms

unfoldable pub merged_said : (slots ms : ℕ) → Bytes
merged_said slots ms = at_least (text "One merged reading") slots ms

-- how many slots something takes, behind such words: the time is rounded up
abbrev pub takes : (words : Bytes) → (slots ms : ℕ) → Bytes
takes words slots ms = words ++ decimal 5 slots ++ timed slots ms up ++ text "."

-- our plan by probe: the time is rounded up
unfoldable pub ours_said : (slots ms : ℕ) → Bytes
ours_said slots ms = said " Our plan takes" slots ++ timed slots ms up ++ text "."

-- our plan never takes more: the time is rounded up
unfoldable pub most_said : (slots ms : ℕ) → Bytes
most_said slots ms = said " It never takes more than" slots ++ timed slots ms up ++ text "."

-- the three sentences about the plans for such a reading
abbrev pub plans_said : (reading : Bytes) → (least ours most ms : ℕ) → Bytes
plans_said reading least ours most ms = at_least reading least ms ++ ours_said ours ms ++ most_said most ms

-- how much shorter anybody's plan can be than ours: not at all where ours has the least slots, and else never less than its part
unfoldable pub nobody_said : (least ours times : ℕ) → Bytes
nobody_said least ours times =
    cond (ltb least ours) (text " Nobody's plan can be less than 1/" ++ decimal 5 times ++ text " of ours.\n") (text " Nobody's plan is shorter.\n")

unfoldable pub sentences : Told → (ms : ℕ) → Bytes
sentences told ms = least_said told.least ms ++ ours_said told.ours ms ++ most_said told.most ms ++ nobody_said told.least told.ours told.times

-- sentences, or the line of a refusal
abbrev pub or_refused : Outcome → (answer : Bytes) → Bytes
or_refused outcome answer = cond (is_accepted outcome) answer (refused_line outcome)

unfoldable pub asked_text : Told → (ms : ℕ) → Bytes
asked_text told ms = or_refused told.outcome (sentences told ms)

-- "Merged readings", on the telephone: three sentences
unfoldable pub merged_sentences : MergedTold → (ms : ℕ) → Bytes
merged_sentences told ms = merged_said told.least ms ++ ours_said told.ours ms ++ most_said told.most ms ++ text "\n"

unfoldable pub merged_text : MergedTold → (ms : ℕ) → Bytes
merged_text told ms = or_refused told.outcome (merged_sentences told ms)

-- RULES, "The answers in words": the slots of the best and of the worst arrangement of the same probes
unfoldable pub spread_text : (best worst : ℕ) → Bytes
spread_text best worst = said "The same probes, hung otherwise and disturbing each other otherwise:" best ++ said " slots at best," worst ++ text " at worst.\n"
