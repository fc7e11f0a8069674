-- The lines of a plan's slots, written one behind the other: what is written and the lines that are left make the whole.
use mathlib.Core.Path.{◌≡◌, refl, sym, ap, ap₂, ◌∙◌}
use mathlib.Core.Bool.{Bool, cond}
use mathlib.Core.List.{List, [], ◌∷◌, ◌++◌, append-nil, append_assoc}
use Prim.Native.Nat.{ℕ, suc, ◌+◌, ◌-◌, ◌≤◌, ◌<◌}
use native.Mathlib.Nat.{sub-zero}
use native.Mathlib.Numerals.{add-one}
use native.Mathlib.Omega.{arith}
use borrow.Author.Tests.{le-leb}
use borrow.Rule.Slice.PartMut.{put_mid}
use lib.ListN.{length, get_or, take, drop, length-append, length-drop}
use Rattle.meaning.specs.Plan.{front, next_at, senders_at, slots_from}
use Rattle.meaning.specs.Lister.{slot_lines, slot_line}
use Rattle.lines.specs.Line.{line_length, line_in}
use Rattle.lines.proofs.Lined.{slot-line}
use Rattle.laws.proofs.Lists.{length_front}
use Rattle.plan.proofs.TurnByTurn.{front-front, part-from, put-behind}
use Rattle.listing.specs.Listed.{Listing}

-- a line that a buffer has room for
pub line-whole : (l bytes : List ℕ) → length bytes ≤ length l → (line_length l bytes ≡ length bytes) × (line_in l bytes ≡ front l bytes)
line-whole l bytes h =
    let room = le-leb (length bytes) (length l) h in
    (ap (λ (b : Bool). cond b (length bytes) 0) room, ap (λ (b : Bool). cond b (front l bytes) l) room)

-- bytes written into the part behind others that stand at the start of a buffer
pub behind-front : (d xs ys : List ℕ) (at : ℕ) (l part : List ℕ) → at ≡ length xs → length xs ≤ length d → l ≡ front d xs
    → part ≡ front (take (length l - at) (drop at l)) ys → put_mid at (length l - at) l part ≡ front d (xs ++ ys)
behind-front d xs ys at l part e room its written =
    put-behind l part at (omega (arith, ap length its ∙ length_front d xs room))
    ∙ ap (λ (p : List ℕ). take at l ++ p) (written ∙ ap (λ (p : List ℕ). front p ys) (part-from l at))
    ∙ ap (λ (b : List ℕ). take at b ++ front (drop at b) ys) its
    ∙ front-front d xs ys at e

-- one slot more
next-slot : (plan : List ℕ) (place slots k : ℕ) → k < slots
    → slots_from plan place (slots - k) ≡ senders_at plan place ∷ slots_from plan (next_at plan place) (slots - (k + 1))
unfolding slots_from
next-slot plan place slots k h =
    let one : slots - k ≡ suc (slots - (k + 1)) = omega arith in ap (slots_from plan place) one

pub listing_start : (plan before : List ℕ) (slots : ℕ) → length (slot_lines 0 (slots_from plan 2 slots)) ≤ length before
    → Listing plan slots before before 2 0 0
listing_start plan before slots room =
    record {
      done = [];
      fits = room;
      within = omega arith;
      near = omega arith;
      whole = ap (λ (k : ℕ). slot_lines 0 (slots_from plan 2 k)) (sym (sub-zero slots));
      ends = refl;
      wrote = refl;
    }

module _ {plan : List ℕ} {slots : ℕ} {before after : List ℕ} {place at k : ℕ} (now : Listing plan slots before after place at k) where
  written-within : at ≤ length before
  written-within =
      omega (arith, now.fits, now.ends, ap length now.whole ∙ length-append now.done (slot_lines k (slots_from plan place (slots - k))))

  pub listing-long : length after ≡ length before
  listing-long = ap length now.wrote ∙ length_front before now.done (omega (arith, written-within, now.ends))

  pub listing-within : at ≤ length after
  listing-within = omega (arith, written-within, listing-long)

  pub listing-all : slots ≤ k → (at ≡ length (slot_lines 0 (slots_from plan 2 slots))) × (after ≡ front before (slot_lines 0 (slots_from plan 2 slots)))
  unfolding slots_from slot_lines
  listing-all h =
      let none : slots - k ≡ 0 = omega (arith, h) in
      let all : now.done ≡ slot_lines 0 (slots_from plan 2 slots) =
      sym (now.whole ∙ ap (λ (n : ℕ). now.done ++ slot_lines k (slots_from plan place n)) none ∙ append-nil now.done)
      in
      (now.ends ∙ ap length all, now.wrote ∙ ap (front before) all)

  -- the next slot and its line
  module _ (more : k < slots) (senders : List ℕ) (are : senders ≡ senders_at plan place) where
    line : List ℕ
    line = slot_line (k + 1) senders

    abbrev rest : List ℕ
    rest = take (length after - at) (drop at after)

    left : List ℕ
    left = slot_lines (k + 1) (slots_from plan (next_at plan place) (slots - (k + 1)))

    whole : slot_lines 0 (slots_from plan 2 slots) ≡ (now.done ++ line) ++ left
    unfolding line left
    whole =
        now.whole
        ∙ ap (λ (l : List ℕ). now.done ++ l)
        (ap (slot_lines k) (next-slot plan place slots k more)
        ∙ slot-line k (senders_at plan place) (slots_from plan (next_at plan place) (slots - (k + 1)))
        ∙ ap₂ (λ (j : ℕ) (l : List ℕ). slot_line j l ++ slot_lines j (slots_from plan (next_at plan place) (slots - (k + 1)))) (sym (add-one k)) (sym are))
        ∙ sym (append_assoc now.done line left)

    room : length now.done + length line ≤ length before
    room = omega (arith, now.fits, ap length whole ∙ length-append (now.done ++ line) left, length-append now.done line)

    room-left : length line ≤ length rest
    room-left = omega (arith, room, listing-long, now.ends, ap length (part-from after at) ∙ length-drop at after)

    pub listing-end : (bytes : ℕ) → bytes ≡ line_length rest (slot_line (k + 1) senders) → at + bytes ≤ length before
    unfolding line
    listing-end bytes answer = omega (arith, room, now.ends, answer, (line-whole rest line room-left).0)

    pub listing-next : (part : List ℕ) (bytes n : ℕ) → bytes ≡ line_length rest (slot_line (k + 1) senders) → part ≡ line_in rest (slot_line (k + 1) senders)
        → n ≡ get_or plan place 0 → n < 256
        → Listing plan slots before (put_mid at (length after - at) after part) (place + (1 + n)) (at + bytes) (k + 1)
    unfolding line left
    listing-next part bytes n answer buffer is byte =
        let written = line-whole rest line room-left in
        let next : next_at plan place ≡ place + (1 + n) = omega (arith, is) in
        record {
          done = now.done ++ line;
          fits = now.fits;
          within = omega (arith, more);
          near = omega (arith, now.near, byte);
          whole = whole ∙ ap (λ (p : ℕ). (now.done ++ line) ++ slot_lines (k + 1) (slots_from plan p (slots - (k + 1)))) next;
          ends = ap₂ ◌+◌ now.ends (answer ∙ written.0) ∙ sym (length-append now.done line);
          wrote = behind-front before now.done line at after part now.ends (omega (arith, room)) now.wrote (buffer ∙ written.1);
        }
