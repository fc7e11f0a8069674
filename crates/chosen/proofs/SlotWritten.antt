-- The slot of a colour in the rest: nothing where nobody owns it, and otherwise its count and senders as a whole. By what the choice and the writer say.
use mathlib.Core.Path.{◌≡◌, refl, sym, ap, ◌∙◌, subst}
use mathlib.Core.Bool.{Bool, true, false, cond}
use mathlib.Core.List.{List, [], ◌∷◌, append-nil}
use Prim.Native.Nat.{ℕ, ◌≤◌}
use native.Mathlib.Numerals.{add-one}
use native.Mathlib.Omega.{arith}
use lib.Dec.{ltb}
use lib.ListN.{length, take, drop, length-take}
use lib.Seq.{take_at}
use Rattle.meaning.specs.Words.{places, by_node}
use Rattle.meaning.specs.Plan.{front, slot_bytes}
use Rattle.meaning.specs.Conflict.{entry}
use Rattle.meaning.specs.Rounds.{holds, joined, slot_of, turn_of}
use Rattle.laws.proofs.Lists.{length_front}
use Rattle.laws.specs.Few.{at_most63}
use Rattle.chosen.specs.TurnSlot.{turn_slots, turn_by, whole, turn_length, turn_in}
use Rattle.chosen.specs.Kept.{flag, blocked_by, owners_by, Chosen, senders_by, Written}
use Rattle.chosen.proofs.Owners.{owners-long}
use Rattle.chosen.proofs.Writing.{probes-few, whole-fits}

pub one-bytes : (slot : List ℕ) → slot_bytes (slot ∷ []) ≡ length slot ∷ slot
unfolding slot_bytes
one-bytes slot = append-nil (length slot ∷ slot)

-- the answer and the rest afterwards, for any slots
abbrev pub Wrote : List (List ℕ) → List ℕ → List ℕ → ℕ → Type 0
Wrote slots rest rest' bytes = (bytes ≡ turn_length rest slots) × (rest' ≡ turn_in rest slots)

module _ (p : ℕ) {few : ℕ} (is : few ≡ at_most63 p) {table : List (List Bool)} {own : List ℕ} {s : ℕ} {held : List ℕ} {chosen blocked : List Bool} {any : Bool}
    (choice : Chosen few table own s held chosen blocked any) where
  abbrev turn : List (List ℕ)
  turn = turn_by (at_most63 p) table own s held

  -- with an owner one slot, and else none
  its-slot : (b : Bool) → any ≡ b → turn ≡ cond b (senders_by few table held (owners_by few table own s held) ∷ []) []
  unfolding turn_slots turn_of slot_of
  its-slot b e =
      ap (λ (n : ℕ). turn_by n table own s held) (sym is)
      ∙ ap (λ (t : Bool). cond t (senders_by few table held (owners_by few table own s held) ∷ []) []) (sym choice.owned ∙ e)

  -- no owner, no slot
  pub none_written : any ≡ false → (rest : List ℕ) → Wrote turn rest rest 0
  unfolding slot_bytes
  none_written e rest = subst (λ (l : List (List ℕ)). Wrote l rest rest 0) (sym (its-slot false e)) (empty (ltb (length rest) 0))
    where
      nothing : Bool → List ℕ
      nothing b = cond b [] []

      empty : (b : Bool) → (0 ≡ length (nothing b)) × (rest ≡ front rest (nothing b))
      empty true = (refl, refl)
      empty false = (refl, refl)

  module _ (e : any ≡ true) where
    -- what the writer asks for
    pub may_write : {room : ℕ} → 64 ≤ room → (few ≤ 63) × (length chosen ≡ places) × (blocked ≡ blocked_by (entry table) chosen) × (64 ≤ room)
    may_write h = (omega (arith, is), ap length (choice.chose e) ∙ owners-long few (entry table) (by_node own) s (holds held), choice.knows e, h)

    -- those that send
    abbrev all : List ℕ
    all = senders_by few table held chosen

    few-senders : length all ≤ 63
    few-senders = omega (arith, is, probes-few (flag (joined few (entry table) (holds held) chosen)) few)

    its-bytes : slot_bytes turn ≡ length all ∷ all
    its-bytes =
        ap slot_bytes (its-slot true e ∙ ap (λ (owners : List Bool). senders_by few table held owners ∷ []) (sym (choice.chose e)))
        ∙ one-bytes all

    -- into a rest where any slot fits
    pub all-written : (rest rest' : List ℕ) (bytes : ℕ) → 64 ≤ length rest → Written all rest rest' bytes → Wrote turn rest rest' bytes
    all-written rest rest' bytes room w =
        let fits : whole rest (slot_bytes turn) ≡ length all ∷ all =
        ap (whole rest) its-bytes ∙ whole-fits rest (length all ∷ all) (omega (arith, few-senders))
        in
        (w.counted ∙ add-one (length all) ∙ ap length (sym fits), w.wrote ∙ ap (front rest) (sym fits))

    -- into another list first, where any slot fits, and from there as a whole
    module _ (d short : List ℕ) (bytes : ℕ) (room : 64 ≤ length d) (w : Written all d short bytes) where
      pub short-ends : bytes ≤ length short
      short-ends =
          omega (arith, few-senders, w.counted, ap length w.wrote ∙ length_front d (length all ∷ all) (omega (arith, few-senders)))

      pub short-many : bytes ≡ length (take bytes short)
      short-many = sym (length-take bytes short ∙ (omega (arith, short-ends)))

      pub short-written : (rest rest' : List ℕ) (n : ℕ) → n ≡ length (whole rest (take bytes short)) → rest' ≡ front rest (whole rest (take bytes short))
          → Wrote turn rest rest' n
      short-written rest rest' n counted wrote =
          let lent : take bytes short ≡ slot_bytes turn =
          ap (take bytes) w.wrote ∙ take_at (length all ∷ all) (drop (length (length all ∷ all)) d) bytes (sym (w.counted ∙ add-one (length all)))
          ∙ sym its-bytes
          in
          (counted ∙ ap (λ (l : List ℕ). length (whole rest l)) lent, wrote ∙ ap (λ (l : List ℕ). front rest (whole rest l)) lent)
