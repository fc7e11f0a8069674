-- Two ways with the same owners make the same plan: turn by turn, and round by round.
use mathlib.Core.Path.{◌≡◌, ap}
use mathlib.Core.Bool.{Bool, cond}
use mathlib.Core.List.{List}
use Prim.Native.Nat.{ℕ, ◌+◌}
use Rattle.meaning.specs.Rounds.{Progress, Way, holds, outside, turn_of, recorded, round, rounds}
use Rattle.laws.proofs.Turns.{for_each-same}

module _ (p : ℕ) (parent : ℕ → ℕ) (relation : ℕ → ℕ → Bool) (may : List ℕ → List ℕ) (m : ℕ) where
  abbrev pub way_of : (ℕ → (ℕ → Bool) → List Bool) → Way
  way_of owners = record { probes = p; goes = parent; relation = relation; may = may; owners = owners; colours = m }

  module _ (a b : ℕ → (ℕ → Bool) → List Bool) (same : (s : ℕ) (who : ℕ → Bool) → a (s + 1) who ≡ b (s + 1) who) where
    round_same : (now : Progress) → round (way_of a) now ≡ round (way_of b) now
    unfolding round
    round_same now =
        for_each-same m _ _ now
        (λ s _ then. ap (λ (owners : List Bool). recorded parent (turn_of p relation (holds (may then.held)) owners) then) (same s (holds (may then.held))))

    -- the same owners, the same plan
    pub rounds-same : (n : ℕ) (start : Progress) → rounds (way_of a) n start ≡ rounds (way_of b) n start
    unfolding rounds
    rounds-same n start = for_each-same n _ _ start (λ _ _ now. ap (λ (next : Progress). cond (outside p now.held) next now) (round_same now))
