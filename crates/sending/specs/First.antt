-- What is held before the first slot, of the packets that stand in a list by node.
use Rattle.std.specs.Prelude.{List, ℕ}
use Rattle.meaning.specs.declared.Mode.{Mode}
use Rattle.meaning.specs.declared.Mode.TheVariants.{Packets, Merged}
use Rattle.meaning.specs.Words.{tab, places}
use Rattle.meaning.specs.Rounds.{one_each}

-- each node's packets, or one reading of each probe, whatever its packets are
abbrev pub first_held : Mode → (p : ℕ) → (packets : List ℕ) → List ℕ
first_held Packets p packets = packets
first_held Merged p packets = tab places (one_each p)
