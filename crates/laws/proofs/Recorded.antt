-- What is recorded: no slot changes nothing, and a slot stands behind those before. Then every slot of a plan has a sender, since a turn makes one only
-- for an owner, who sends in it.
use mathlib.Core.Path.{◌≡◌, refl, sym, ap, subst}
use mathlib.Core.Bool.{Bool, true, false, cond}
use mathlib.Core.List.{List, [], ◌∷◌, append-nil}
use mathlib.Core.Logic.{◌⊎◌, inl, inr, ⊎_elim}
use Prim.Native.Nat.{ℕ, ◌+◌, ◌≤◌, ◌<◌}
use native.Mathlib.Nat.{not-suc-le-zero}
use native.Mathlib.Omega.{arith}
use lib.ListN.{length, get_or, length-append, get_or-append}
use lib.Seq.{get_or-append_seam}
use Rattle.meaning.specs.declared.Mode.{Mode}
use Rattle.meaning.specs.Words.{some_probe}
use Rattle.meaning.specs.Rounds.{holds, outside, first_in, sendings_in, slot_of, turn_of, held_after, Progress, recorded, Way, turn, round, rounds, before, slots_in}
use Rattle.laws.proofs.Turns.{below-or-last, for_each-keeps}
use Rattle.laws.proofs.Joining.{owned-slot}

pub recorded-none : (parent : ℕ → ℕ) (now : Progress) → recorded parent [] now ≡ now
unfolding recorded held_after
recorded-none parent now = λ i. record { held = now.held; slots = append-nil now.slots i }

-- what a turn makes: no slot, or one that has a sender
module _ (p : ℕ) (relation : ℕ → ℕ → Bool) (may : ℕ → Bool) (owners : List Bool) where
  pub turn-makes : (turn_of p relation may owners ≡ []) ⊎ ((turn_of p relation may owners ≡ slot_of p relation may owners ∷ []) × (1 ≤ length (slot_of p relation may owners)))
  unfolding turn_of
  turn-makes = go (some_probe p (λ v. get_or owners v false)) refl
    where
      slot : List ℕ
      slot = slot_of p relation may owners

      go : (b : Bool) → some_probe p (λ v. get_or owners v false) ≡ b → (cond b (slot ∷ []) [] ≡ []) ⊎ ((cond b (slot ∷ []) [] ≡ slot ∷ []) × (1 ≤ length slot))
      go true e = inr (refl, owned-slot p relation may owners e)
      go false e = inl refl

  -- so what is shown of none and of one is shown of a turn
  pub of-turn : (P : List (List ℕ) → Type 0) → P [] → (1 ≤ length (slot_of p relation may owners) → P (slot_of p relation may owners ∷ [])) → P (turn_of p relation may owners)
  of-turn P none one = ⊎_elim (λ e. subst P (sym e) none) (λ e. subst P (sym e.0) (one e.1)) turn-makes

-- each slot made so far has a sender
abbrev HaveSenders : Progress → Type 0
HaveSenders now = (k : ℕ) → k < length now.slots → 0 < length (get_or now.slots k [])

one-keeps : (parent : ℕ → ℕ) (slot : List ℕ) (now : Progress) → 1 ≤ length slot → HaveSenders now → HaveSenders (recorded parent (slot ∷ []) now)
unfolding recorded
one-keeps parent slot now sends has k h =
    ⊎_elim (λ (l : k < length now.slots). omega (arith, has k l, ap length (get_or-append now.slots (slot ∷ []) [] k l)))
    (λ (l : k ≡ length now.slots). rw l (rw (get_or-append_seam now.slots slot [] []) (omega arith)))
    (below-or-last k (length now.slots) (omega (arith, length-append now.slots (slot ∷ []))))

module _ (way : Way) where
  turn-keeps : (s : ℕ) (now : Progress) → HaveSenders now → HaveSenders (recorded way.goes (turn way s now.held) now)
  turn-keeps s now has =
      of-turn way.probes way.relation (holds (way.may now.held)) (way.owners s (holds (way.may now.held)))
      (λ slots. HaveSenders (recorded way.goes slots now))
      (subst HaveSenders (sym (recorded-none way.goes now)) has) (λ sends. one-keeps way.goes _ now sends has)

  round_keeps : (now : Progress) → HaveSenders now → HaveSenders (round way now)
  unfolding round
  round_keeps now has =
      for_each-keeps HaveSenders way.colours (λ s was. recorded way.goes (turn way (s + 1) was.held) was) now has (λ s _. turn-keeps (s + 1))

  -- another round, or none
  busy-keeps : (b : Bool) (now : Progress) → HaveSenders now → HaveSenders (cond b (round way now) now)
  busy-keeps true now has = round_keeps now has
  busy-keeps false now has = has

  rounds-keep : (many : ℕ) (now : Progress) → HaveSenders now → HaveSenders (rounds way many now)
  unfolding rounds
  rounds-keep many now has =
      for_each-keeps HaveSenders many (λ _ was. cond (outside way.probes was.held) (round way was) was) now has
      (λ _ _ was. busy-keeps (outside way.probes was.held) was)

-- every slot of a plan has a sender, by whatever way
pub no-empty-slot : (mode : Mode) (s : List ℕ) (way : Way) (k : ℕ) → k < length (slots_in mode s way) → 0 < length (get_or (slots_in mode s way) k [])
unfolding slots_in
no-empty-slot mode s way = rounds-keep way (sendings_in mode s) (before (first_in mode s)) (λ k h. absurd (not-suc-le-zero h))
