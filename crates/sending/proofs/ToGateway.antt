-- A list of parents that are all the gateway moves what is sent there: a sender that is a node has its place in the list, and no other moves anything.
use mathlib.Core.Path.{◌≡◌, refl, sym, ap, ◌∙◌}
use mathlib.Core.Bool.{Bool, cond, ◌&&◌}
use mathlib.Core.List.{List, [], ◌∷◌}
use Prim.Native.Nat.{ℕ, ◌<◌}
use native.Mathlib.Decide.{dec_lt}
use native.Mathlib.Omega.{arith}
use borrow.Author.Tests.{le-ltb}
use lib.Dec.{ltb}
use lib.ListN.{get_or, replicate, get_or-replicate}
use Rattle.meaning.specs.Words.{places, by_node}
use Rattle.meaning.specs.Rounds.{hop, holds}
use Rattle.slot.specs.Move.{hop_within, moved_within}

module _ (f g : ℕ → ℕ) (same : (v : ℕ) → v < places → f v ≡ g v) where
  hop-same : (v : ℕ) (held : List ℕ) → hop_within f v held ≡ hop_within g v held
  unfolding hop_within
  hop-same v held = go (dec_lt v places)
    where
      at : ℕ → List ℕ
      at up = cond (ltb v places && ltb up places && holds held v && ltb (get_or held up 0) 65535) (hop (λ _. up) v held) held

      none : Bool → (ℕ → ℕ) → List ℕ
      none b parent = cond (b && ltb (parent v) places && holds held v && ltb (get_or held (parent v) 0) 65535) (hop parent v held) held

      go : Dec (v < places) → hop_within f v held ≡ hop_within g v held
      go (yes l) = ap at (same v l)
      go (no l) = let past = le-ltb v places (omega arith) in ap (λ (b : Bool). none b f) past ∙ sym (ap (λ (b : Bool). none b g) past)

  moved_same : (slot held : List ℕ) → moved_within f slot held ≡ moved_within g slot held
  unfolding moved_within
  moved_same [] held = refl
  moved_same (v ∷ slot) held = ap (moved_within f slot) (hop-same v held) ∙ moved_same slot (hop_within g v held)

pub to-gateway : (slot held : List ℕ) → moved_within (by_node (replicate places 1)) slot held ≡ moved_within (λ _. 1) slot held
to-gateway slot held = moved_same (by_node (replicate places 1)) (λ _. 1) (λ v h. get_or-replicate places v 1 0 h) slot held
