-- Moving packets for any parents, any senders and whatever is held. Of a slot that may be sent it is the meaning's `moved` (proofs/Within.antt).
use Rattle.std.specs.Prelude.{Bool, cond, ◌&&◌, List, [], ◌∷◌, ℕ, ltb, get_or}
use Rattle.meaning.specs.Words.{Node, places}
use Rattle.meaning.specs.Rounds.{holds, hop}

-- the sender and its parent are nodes, the sender holds a packet, and the parent can hold one more
abbrev pub may_hop : (parent : Node → Node) → (v : Node) → (held : List ℕ) → Bool
may_hop parent v held = ltb v places && ltb (parent v) places && holds held v && ltb (get_or held (parent v) 0) 65535

-- "The two plans": a sender's packet moves to its parent, where it may
unfoldable pub hop_within : (parent : Node → Node) → (v : Node) → (held : List ℕ) → List ℕ
hop_within parent v held = cond (may_hop parent v held) (hop parent v held) held

-- "The two plans": sender by sender
unfoldable pub moved_within : (parent : Node → Node) → (slot : List Node) → (held : List ℕ) → List ℕ
moved_within parent [] held = held
moved_within parent (v ∷ slot) held = moved_within parent slot (hop_within parent v held)
