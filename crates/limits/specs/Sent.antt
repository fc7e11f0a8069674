-- What probes send: in a slot, in many slots, and together to one parent.
use Rattle.std.specs.Prelude.{cond, List, [], ◌∷◌, ℕ, ◌+◌, eqb}
use Rattle.meaning.specs.Words.{sum_probes}

-- what the children of v have together, by any number that each has
unfoldable pub inflow : ℕ → (ℕ → ℕ) → (ℕ → ℕ) → ℕ → ℕ
inflow p parent many v = sum_probes p (λ c. cond (eqb (parent c) v) (many c) 0)

-- how often v stands in a slot
unfoldable pub sent_in : List ℕ → ℕ → ℕ
sent_in [] v = 0
sent_in (u ∷ slot) v = cond (eqb u v) 1 0 + sent_in slot v

-- how often v sends in these slots
unfoldable pub sent : List (List ℕ) → ℕ → ℕ
sent [] v = 0
sent (slot ∷ slots) v = sent_in slot v + sent slots v
