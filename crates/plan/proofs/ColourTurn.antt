-- A turn of a colour: each of its senders holds something and brings it one sending nearer, so that its slot fits and the next turn can count on the same.
use mathlib.Core.Path.{◌≡◌, refl, sym, ap, ap₂, ◌∙◌, subst}
use mathlib.Core.Bool.{Bool, true, cond}
use mathlib.Core.List.{List, [], ◌∷◌}
use mathlib.Core.Logic.{◌⊎◌, ◌≢◌, ⊎_elim}
use Prim.Native.Nat.{ℕ, suc, ◌+◌, ◌-◌, ◌*◌, ◌≤◌, ◌<◌}
use native.Mathlib.Omega.{arith}
use borrow.Author.Tests.{ltb-true, ne_eqb}
use lib.Dec.{eqb}
use lib.ListN.{length, get_or, take, drop}
use lib.Seq.{take_at}
use Rattle.meaning.specs.Words.{by_node}
use Rattle.meaning.specs.Plan.{front, slot_bytes}
use Rattle.meaning.specs.Yard.{level_by}
use Rattle.meaning.specs.Conflict.{entry}
use Rattle.meaning.specs.Rounds.{holds, owners_by_level, slot_of, moved, held_after}
use Rattle.laws.proofs.Lists.{length_front}
use Rattle.laws.proofs.Moving.{weigh, Each, Rising, Sender, weigh-moved, weigh-up, kept, length_moved}
use Rattle.laws.proofs.Slots.{each-slot, each-so, rising-slot}
use Rattle.laws.proofs.Running.{each_at}
use Rattle.laws.proofs.Recorded.{turn-makes, of-turn}
use Rattle.chosen.specs.TurnSlot.{turn_slots, turn_by, whole}
use Rattle.chosen.proofs.Owners.{only-owners}
use Rattle.chosen.proofs.Writing.{whole-fits}
use Rattle.chosen.proofs.SlotWritten.{one-bytes, Wrote}
use Rattle.plan.specs.ColourTurn.{Ready, Turned}

module _ (p : ℕ) (parent : ℕ → ℕ) (held : List ℕ) (room : ℕ) (ready : Ready p parent held room)
    (may : List ℕ) (has : (v : ℕ) → holds may v ≡ true → holds held v ≡ true) where
  -- a probe that may send can, since it holds something
  can-send : (k : ℕ) → k < p → holds may (k + 2) ≡ true → Sender parent held (k + 2)
  can-send k h e = (ltb-true 0 (get_or held (k + 2) 0) (has (k + 2) e), omega (arith, ready.small), (ready.up k h).0)

  module _ (relation : ℕ → ℕ → Bool) (own : ℕ → ℕ) (s : ℕ) where
    -- what the turn makes, and the slot that it is if there is one
    abbrev pub slots : List (List ℕ)
    slots = turn_slots p relation own s may

    abbrev pub slot : List ℕ
    slot = slot_of p relation (holds may) (owners_by_level p relation own s (holds may))

    pub makes : (slots ≡ []) ⊎ ((slots ≡ slot ∷ []) × (1 ≤ length slot))
    unfolding turn_slots
    makes = turn-makes p relation (holds may) (owners_by_level p relation own s (holds may))

    either : (P : List (List ℕ) → Type 0) → P [] → (1 ≤ length slot → P (slot ∷ [])) → P slots
    unfolding turn_slots
    either = of-turn p relation (holds may) (owners_by_level p relation own s (holds may))

    each_turn : Each (λ v. (holds may v ≡ true) × (2 ≤ v) × (v < p + 2)) slot
    each_turn = each-slot p relation (holds may) (owners_by_level p relation own s (holds may)) (only-owners p relation own s (holds may))

    by_number : (P : ℕ → Type 0) → ((k : ℕ) → k < p → holds may (k + 2) ≡ true → P (k + 2)) → Each P slot
    by_number P so =
        each-so (λ v. (holds may v ≡ true) × (2 ≤ v) × (v < p + 2)) P slot
        (λ v h.
        let here : v - 2 + 2 ≡ v = omega (arith, h.1) in
        subst P here (so (v - 2) (omega (arith, h.1, h.2)) (subst (λ (j : ℕ). holds may j ≡ true) (sym here) h.0)))
        each_turn

    pub turn-senders : Each (Sender parent held) slot
    turn-senders = by_number (Sender parent held) can-send

    pub turn-rising : Rising 1 slot
    turn-rising = rising-slot p relation (holds may) (owners_by_level p relation own s (holds may))

    -- what each sender sends comes one sending nearer
    slot-sent : weigh (level_by p parent) (moved parent slot held) + length slot ≡ weigh (level_by p parent) held
    slot-sent =
        omega (
          arith,
          weigh-moved (level_by p parent) parent 1 slot held ready.long turn-rising turn-senders,
          weigh-up (level_by p parent) parent slot (by_number (λ v. level_by p parent v ≡ suc (level_by p parent (parent v))) (λ k h _. (ready.up k h).1)),
        )

    -- a turn makes no more slots than sendings, and no more than two bytes a sending
    pub turn-sent : length slots + weigh (level_by p parent) (held_after parent held slots) ≤ weigh (level_by p parent) held
    unfolding held_after
    turn-sent =
        either (λ l. length l + weigh (level_by p parent) (held_after parent held l) ≤ weigh (level_by p parent) held) (omega arith)
        (λ sends. omega (arith, slot-sent))

    two-a-sending : length (slot_bytes slots) + 2 * weigh (level_by p parent) (held_after parent held slots) ≤ 2 * weigh (level_by p parent) held
    unfolding held_after slot_bytes
    two-a-sending =
        either (λ l. length (slot_bytes l) + 2 * weigh (level_by p parent) (held_after parent held l) ≤ 2 * weigh (level_by p parent) held) (omega arith)
        (λ sends. omega (arith, slot-sent, ap length (one-bytes slot)))

    pub turn-bytes : length (slot_bytes slots) ≤ room
    turn-bytes = omega (arith, two-a-sending, ready.fits)

    -- a turn makes a slot exactly where it takes bytes
    pub turn-count : length slots ≡ cond (eqb (length (slot_bytes slots)) 0) 0 1
    unfolding slot_bytes
    turn-count =
        either (λ l. length l ≡ cond (eqb (length (slot_bytes l)) 0) 0 1) refl
        (λ sends. sym (ap (λ (b : Bool). cond b 0 1) (ne_eqb (length (slot_bytes (slot ∷ []))) 0 (λ e. absurd (omega (arith, ap length (one-bytes slot)))))))

    pub turn-fewer : length slots ≤ length (slot_bytes slots)
    unfolding slot_bytes
    turn-fewer = either (λ l. length l ≤ length (slot_bytes l)) (omega arith) (λ sends. omega (arith, ap length (one-bytes slot)))

    -- and the next turn can count on the same
    pub ready-next : Ready p parent (held_after parent held slots) (room - length (slot_bytes slots))
    unfolding held_after
    ready-next =
        record {
          small = ready.small;
          long = either (λ l. length (held_after parent held l) ≡ 65) ready.long (λ _. length_moved parent slot held ∙ ready.long);
          few =
              omega (
                arith,
                either (λ l. weigh (λ _. 1) (held_after parent held l) ≡ weigh (λ _. 1) held) refl
                    (λ _. kept parent 1 slot held ready.long turn-rising turn-senders),
                ready.few,
              );
          up = ready.up;
          fits = omega (arith, two-a-sending, ready.fits);
        }

-- the turn of colour s, once its slot is written
module _ (p : ℕ) (parent : ℕ → ℕ) (held rest : List ℕ) (ready : Ready p parent held (length rest))
    (may : List ℕ) (has : (v : ℕ) → holds may v ≡ true → holds held v ≡ true) (table : List (List Bool)) (own : List ℕ) (s : ℕ)
    (rest' : List ℕ) (bytes : ℕ) (w : Wrote (turn_by p table own s may) rest rest' bytes) where
  abbrev its : List (List ℕ)
  its = turn_by p table own s may

  abbrev one : List ℕ
  one = slot p parent held (length rest) ready may has (entry table) (by_node own) s

  room : length (slot_bytes its) ≤ length rest
  room = turn-bytes p parent held (length rest) ready may has (entry table) (by_node own) s

  -- there is room for all of it
  all_in : whole rest (slot_bytes its) ≡ slot_bytes its
  all_in = whole-fits rest (slot_bytes its) room

  counted : bytes ≡ length (slot_bytes its)
  counted = w.0 ∙ ap length all_in

  wrote : rest' ≡ front rest (slot_bytes its)
  wrote = w.1 ∙ ap (front rest) all_in

  -- the rest keeps its length, and the slot ends within it
  pub rest-long : length rest' ≡ length rest
  rest-long = ap length wrote ∙ length_front rest (slot_bytes its) room

  pub slot-ends : bytes ≤ length rest'
  slot-ends = omega (arith, counted, rest-long, room)

  -- no byte, no slot
  pub turned_none : bytes ≡ 0 → Turned parent its held held rest rest' 0
  unfolding held_after
  turned_none e =
      record {
        moves =
            ⊎_elim (λ none. sym (ap (held_after parent held) none)) (λ made. absurd (omega (arith, e, counted, ap length (ap slot_bytes made.0 ∙ one-bytes one))))
            (makes p parent held (length rest) ready may has (entry table) (by_node own) s);
        counted = sym e ∙ counted;
        wrote = wrote;
      }

  module _ (some : bytes ≢ 0) where
    -- behind the count stand its senders
    abbrev lent : List ℕ
    lent = take (bytes - 1) (drop 1 rest')

    is_one : its ≡ one ∷ []
    unfolding slot_bytes
    is_one =
        ⊎_elim (λ none. absurd (some (counted ∙ ap (λ (l : List (List ℕ)). length (slot_bytes l)) none))) (λ made. made.0)
        (makes p parent held (length rest) ready may has (entry table) (by_node own) s)

    slot_lent : lent ≡ one
    slot_lent =
        let bytes-are : slot_bytes its ≡ length one ∷ one = ap slot_bytes is_one ∙ one-bytes one in
        let many : bytes - 1 ≡ length one = omega (arith, counted, ap length bytes-are) in
        ap₂ (λ (n : ℕ) (l : List ℕ). take n (drop 1 l)) many (wrote ∙ ap (front rest) bytes-are)
        ∙ take_at one (drop (suc (length one)) rest) (length one) refl

    -- in rising number, and each of them can send
    pub may-move : Rising 1 lent × ((i : ℕ) → i < length lent → Sender parent held (get_or lent i 0))
    may-move =
        subst (λ (l : List ℕ). Rising 1 l × ((i : ℕ) → i < length l → Sender parent held (get_or l i 0))) (sym slot_lent) (
          turn-rising p parent held (length rest) ready may has (entry table) (by_node own) s,
          each_at (Sender parent held) one (turn-senders p parent held (length rest) ready may has (entry table) (by_node own) s),
        )

    pub turned-slot : (held' : List ℕ) → held' ≡ moved parent lent held → Turned parent its held held' rest rest' bytes
    unfolding held_after
    turned-slot held' m =
        record {
          moves = m ∙ ap (λ (l : List ℕ). moved parent l held) slot_lent ∙ sym (ap (held_after parent held) is_one);
          counted = counted;
          wrote = wrote;
        }
