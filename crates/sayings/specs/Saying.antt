-- RULES, "The answers in words": what a number says, in the words of docs/NUMBERS.md.
use Rattle.std.specs.Prelude.{cond, List, [], ◌∷◌, ℕ, eqb, get_or}
use Rattle.meaning.specs.declared.Mode.{Mode}
use Rattle.meaning.specs.declared.Mode.TheVariants.{Packets, Merged}
use Rattle.meaning.specs.Words.{Bytes}
use Rattle.meaning.specs.Lister.{text}

-- no proved answer has such a number; it is not given another's words
unfoldable pub unknown : Bytes
unknown = text "no number of docs/NUMBERS.md"

-- docs/NUMBERS.md, "in words": those of 1, 2, .. 22, behind those of 0; those of 12 to 15 go on from the senders that they are said of
unfoldable pub sayings : List Bytes
sayings =
    unknown
    ∷ text "the sheet ends too early"
    ∷ text "the sheet counts more than 63 probes, or more pairs than its nodes have"
    ∷ text "bytes stand behind the sheet"
    ∷ text "the probe's parent is 0, the probe itself, or no node of the yard"
    ∷ text "the probe has more than 15 packets"
    ∷ text "the walk from the probe to its parents never reaches the gateway"
    ∷ text "the pair does not name two nodes of the yard, the smaller first"
    ∷ text "the pair is not above the one before it"
    ∷ text "the plan buffer is shorter than this yard wants"
    ∷ text "the plan has more than 65,535 slots"
    ∷ text "the plan ends too early"
    ∷ text " is no probe of the yard"
    ∷ text " is not above the one before it"
    ∷ text " holds no packet"
    ∷ text " conflict"
    ∷ text "bytes stand behind the last slot"
    ∷ text "packets are left outside the gateway"
    ∷ text "the line may not stand there, or at 0 no p line came"
    ∷ text "the edge names a vertex out of range, or one vertex twice"
    ∷ text "the p line counts other edges than there are"
    ∷ text "the buffer is shorter than the graph's text"
    ∷ text "the buffer is shorter than the wake book"
    ∷ []

-- docs/NUMBERS.md: what a refusal's number says, of whomever it is said
unfoldable pub saying : (number : ℕ) → Bytes
saying number = get_or sayings number unknown

-- docs/NUMBERS.md, of merged readings: 14 and 17 have words of their own, every other number says what it says of packets
abbrev pub saying_in : Mode → (number : ℕ) → Bytes
saying_in Packets number = saying number
saying_in Merged number = cond (eqb number 14) (text " is not ready") (cond (eqb number 17) (text "some probe never sent") (saying number))
