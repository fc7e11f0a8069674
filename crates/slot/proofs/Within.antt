-- Packets that move within bounds, sender by sender; of a slot that may be sent they move as the meaning says, by recursion over its senders.
use mathlib.Core.Path.{◌≡◌, refl, sym, ap, ◌∙◌}
use mathlib.Core.List.{List, [], ◌∷◌}
use Prim.Native.Nat.{ℕ, zero, suc, ◌+◌, ◌≤◌, ◌<◌}
use native.Mathlib.Nat.{le_refl}
use native.Mathlib.Numerals.{add-one}
use native.Mathlib.Omega.{arith}
use borrow.Author.Tests.{lt-ltb, le-ltb}
use lib.ListN.{length, get_or, set, drop, drop_of_length-le}
use lib.Seq.{drop-cons}
use Rattle.meaning.specs.Words.{places}
use Rattle.meaning.specs.Rounds.{hop, moved}
use Rattle.laws.proofs.Running.{at_each}
use Rattle.laws.proofs.Moving.{weigh, Rising, Each, Sender, weigh-hop, length-hop, sending-on, in_all}
use Rattle.slot.specs.Move.{hop_within, moved_within}

-- where one node comes to hold less, none holds more
pub set-less : (held : List ℕ) (v u less : ℕ) → less ≤ get_or held v 0 → get_or (set held v less) u 0 ≤ get_or held u 0
set-less [] v u less h = le_refl _
set-less (x ∷ held) zero zero less h = h
set-less (x ∷ held) zero (suc u) less h = le_refl _
set-less (x ∷ held) (suc v) zero less h = le_refl _
set-less (x ∷ held) (suc v) (suc u) less h = set-less held v u less h

module _ (parent : ℕ → ℕ) where
  -- the loop: the next sender's turn, and no sender left
  pub next-moves : (slot held : List ℕ) (i : ℕ) → i < length slot
      → moved_within parent (drop i slot) held ≡ moved_within parent (drop (i + 1) slot) (hop_within parent (get_or slot i 0) held)
  unfolding moved_within
  next-moves slot held i h = rw (drop-cons slot i 0, ← add-one i)

  pub none_moves : (slot held : List ℕ) (i : ℕ) → length slot ≤ i → moved_within parent (drop i slot) held ≡ held
  unfolding moved_within
  none_moves slot held i h = rw (drop_of_length-le slot h)

  -- a lone sender's turn is all
  pub lone-moves : (slot held : List ℕ) → length slot ≡ 1 → hop_within parent (get_or slot 0 0) held ≡ moved_within parent slot held
  lone-moves slot held e =
      sym (next-moves slot held 0 (omega arith) ∙ none_moves slot (hop_within parent (get_or slot 0 0) held) 1 (omega arith))

  -- the tests of a hop in their order, as the code takes them: one that fails, and nothing moves, or all hold, and the packet moves
  module _ (v : ℕ) (held : List ℕ) where
    pub no_node : places ≤ v → held ≡ hop_within parent v held
    unfolding hop_within
    no_node h = simp (le-ltb v places h)

    module _ (node : v < places) where
      pub no-parent : places ≤ parent v → held ≡ hop_within parent v held
      unfolding hop_within
      no-parent h = simp (lt-ltb v places node, le-ltb (parent v) places h)

      module _ (up : parent v < places) where
        pub no_packet : get_or held v 0 ≤ 0 → held ≡ hop_within parent v held
        unfolding hop_within
        no_packet h = simp (lt-ltb v places node, lt-ltb (parent v) places up, le-ltb 0 (get_or held v 0) h)

        module _ (holding : 1 ≤ get_or held v 0) where
          pub no_room : 65535 ≤ get_or held (parent v) 0 → held ≡ hop_within parent v held
          unfolding hop_within
          no_room h =
              simp (lt-ltb v places node, lt-ltb (parent v) places up, lt-ltb 0 (get_or held v 0) holding, le-ltb (get_or held (parent v) 0) 65535 h)

          pub hops : get_or held (parent v) 0 < 65535 → hop parent v held ≡ hop_within parent v held
          unfolding hop_within
          hops h =
              simp (lt-ltb v places node, lt-ltb (parent v) places up, lt-ltb 0 (get_or held v 0) holding, lt-ltb (get_or held (parent v) 0) 65535 h)

  -- of senders that may send each does: few packets leave room everywhere
  senders-move : (lo : ℕ) (slot held : List ℕ) → length held ≡ places → weigh (λ _. 1) held ≤ 945 → Rising lo slot → Each (Sender parent held) slot
      → moved_within parent slot held ≡ moved parent slot held
  unfolding moved_within moved Rising Each
  senders-move lo [] held long few rising sending = refl
  senders-move lo (v ∷ slot) held long few rising sending =
      let sender : Sender parent held v = sending.0 in
      let kept = weigh-hop (λ _. 1) parent v held long sender.1 sender.2 sender.0 in
      ap (moved_within parent slot) (sym (hops v held sender.1 sender.2 sender.0 (omega (arith, in_all held (parent v) sender.2))))
      ∙ senders-move v slot (hop parent v held) (length-hop parent v held ∙ long) (omega arith) rising.1
      (sending-on parent v v held slot long (le_refl v) rising.1 sending.1)

  -- a slot that may be sent
  pub moved-within : (slot held : List ℕ) → length held ≡ places → weigh (λ _. 1) held ≤ 945 → Rising 1 slot
      → ((i : ℕ) → i < length slot → Sender parent held (get_or slot i 0)) → moved_within parent slot held ≡ moved parent slot held
  moved-within slot held long few rising senders =
      senders-move 1 slot held long few rising (at_each (Sender parent held) slot senders)
