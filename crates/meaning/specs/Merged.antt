-- RULES, "Merged readings": a good merged plan, told without a judge and without what is held; and the telephone's answer in this mode.
use Rattle.std.specs.Prelude.{◌≡◌, true, cond, List, [], ℕ, ◌*◌, ◌<◌, min, length, get_or}
use Rattle.meaning.specs.declared.MergedTold.{MergedTold}
use Rattle.meaning.specs.Words.{Bytes, Node, Slots, tab, places}
use Rattle.meaning.specs.Yard.{is_probe}
use Rattle.meaning.specs.Sheet.{probe_count, parent_of}
use Rattle.meaning.specs.Plan.{plan_bytes, any_merged}
use Rattle.meaning.specs.Colour.{depth}
use Rattle.meaning.specs.Answer.{is_accepted, sheet_test, merged_made}
use Rattle.meaning.specs.Legal.{Legal}

-- "Merged readings": v is a sender of a slot
abbrev pub SendsIn : (slot : List Node) → Node → Type 0
SendsIn slot v = (i : ℕ) × (i < length slot) × (get_or slot i 0 ≡ v)

-- "Merged readings": everyone has something to send, so that a slot is legal where its senders are probes, in strictly rising number, and no two conflict
abbrev pub everyone : List ℕ
everyone = tab places (λ _. 1)

-- "Merged readings": a good merged plan: its slots have such senders, each probe sends in one slot, `when`, and in no other, and each after all its children
pub record MergedGood (s plan : Bytes) : Type 0 where
  pub sheet : is_accepted (sheet_test s) ≡ true
  pub slots : Slots
  pub few : length slots < 65536
  pub written : plan ≡ plan_bytes slots
  pub clear : (k : ℕ) → k < length slots → Legal s everyone (get_or slots k [])
  pub when : Node → ℕ
  pub sends : (v : Node) → is_probe (probe_count s) v ≡ true → (when v < length slots) × SendsIn (get_or slots (when v) []) v
  pub once : (v : Node) (k : ℕ) → k < length slots → SendsIn (get_or slots k []) v → k ≡ when v
  pub after_children : (c : Node) → is_probe (probe_count s) c ≡ true → is_probe (probe_count s) (parent_of s c) ≡ true → when c < when (parent_of s c)

-- "Merged readings", on the telephone: at most as many slots as colours times depth, and at most one a probe; the smaller counts
abbrev pub merged_most : (s : Bytes) → (colours : ℕ) → ℕ
merged_most s colours = min (colours * depth s) (probe_count s)

-- "Merged readings", on the telephone: at least the depth, ours in a buffer with room for any merged plan, and at most; on refusal all three are 0
unfoldable pub merged_asked : Bytes → MergedTold
merged_asked s =
    let planned = (merged_made s any_merged).answer in
    cond (is_accepted planned.outcome)
    (record { outcome = planned.outcome; least = depth s; ours = planned.slots; most = merged_most s planned.colours })
    (record { outcome = planned.outcome; least = 0; ours = 0; most = 0 })
