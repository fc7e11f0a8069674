-- The whole plan: never more slots than sendings, and its number in front of its slots.
use mathlib.Core.Path.{◌≡◌, ap, ap₂, ◌∙◌}
use mathlib.Core.Bool.{Bool, true, false, cond}
use mathlib.Core.List.{List, [], ◌∷◌}
use Prim.Native.Nat.{ℕ, ◌+◌, ◌-◌, ◌*◌, ◌/◌, ◌%◌, ◌≤◌}
use native.Mathlib.Nat.{not-suc-le-zero, le_of_suc-le-suc}
use native.Mathlib.Omega.{arith}
use borrow.Rule.Slice.PartMut.{put_mid}
use lib.ListN.{length, drop, set, length-append}
use Rattle.plan.specs.declared.Way as code
use Rattle.meaning.specs.Words.{by_node}
use Rattle.meaning.specs.Yard.{level_by}
use Rattle.meaning.specs.Plan.{front, slot_bytes}
use Rattle.meaning.specs.Rounds.{Progress, Way, holds, outside, held_after, recorded, turn, round, rounds}
use Rattle.laws.proofs.Turns.{for_each-keeps}
use Rattle.laws.proofs.Moving.{weigh}
use Rattle.laws.proofs.Modes.{may-holds}
use Rattle.chosen.specs.TurnSlot.{turn_slots}
use Rattle.plan.specs.ColourTurn.{Ready}
use Rattle.plan.specs.TurnByTurn.{way_by, from, slots_by, Going, Filled}
use Rattle.plan.proofs.ColourTurn.{ready-next, turn-sent}
use Rattle.plan.proofs.TurnByTurn.{put-behind}

module _ (by : code.Way) where
  abbrev way : Way
  way = way_by by

  abbrev energy : List ℕ → ℕ
  energy held = weigh (level_by by.probes way.goes) held

  -- a yard to plan, with `all` sendings to make: each slot made has taken one of them at least
  record Spent (all : ℕ) (now : Progress) : Type 0 where
    ready : Ready by.probes way.goes now.held (2 * energy now.held)
    fewer : length now.slots + energy now.held ≤ all

  ready-own : (held : List ℕ) (room : ℕ) → Ready by.probes way.goes held room → Ready by.probes way.goes held (2 * energy held)
  ready-own held room r = record { small = r.small; long = r.long; few = r.few; up = r.up; fits = omega arith }

  spent-turn : (all s : ℕ) (now : Progress) → Spent all now → Spent all (recorded way.goes (turn way s now.held) now)
  unfolding turn_slots recorded
  spent-turn all s now spent =
      record {
        ready =
            ready-own (held_after way.goes now.held made) _
            (ready-next by.probes way.goes now.held (2 * energy now.held) spent.ready may has way.relation (by_node by.own.now) s);
        fewer =
            omega (
              arith,
              spent.fewer,
              length-append now.slots made,
              turn-sent by.probes way.goes now.held (2 * energy now.held) spent.ready may has way.relation (by_node by.own.now) s,
            );
      }
    where
      made : List (List ℕ)
      made = turn way s now.held

      may : List ℕ
      may = way.may now.held

      has : (v : ℕ) → holds may v ≡ true → holds now.held v ≡ true
      has = may-holds by.mode by.probes (by_node by.parents.now) now.held

  spent-round : (all : ℕ) (now : Progress) → Spent all now → Spent all (round way now)
  unfolding round
  spent-round all now spent =
      for_each-keeps (Spent all) by.colours (λ s then. recorded way.goes (turn way (s + 1) then.held) then) now spent
      (λ s _ then h. spent-turn all (s + 1) then h)

  -- a plan has no more slots than sendings
  pub slots-most : (held : List ℕ) (room sendings : ℕ) → Ready by.probes way.goes held room → length (slots_by way sendings held) ≤ energy held
  unfolding rounds
  slots-most held room sendings ready =
      omega (
        arith,
        (for_each-keeps (Spent (energy held)) sendings (λ _ now. cond (outside by.probes now.held) (round way now) now) (from held)
            (record { ready = ready-own held room ready; fewer = omega arith })
            (λ _ _ now h. go (outside by.probes now.held) now h)).fewer,
      )
    where
      go : (b : Bool) (now : Progress) → Spent (energy held) now → Spent (energy held) (cond b (round way now) now)
      go true now h = spent-round (energy held) now h
      go false now h = h

-- the number of slots, in two bytes, in front of them
pub two-in-front : (d part bytes : List ℕ) (hi lo : ℕ) → 2 ≤ length d → part ≡ front (drop 2 d) bytes
    → set (set (put_mid 2 (length d - 2) d part) 0 hi) 1 lo ≡ front d (hi ∷ lo ∷ bytes)
two-in-front [] part bytes hi lo h e = absurd (not-suc-le-zero h)
two-in-front (a ∷ []) part bytes hi lo h e = absurd (not-suc-le-zero (le_of_suc-le-suc h))
two-in-front (a ∷ b ∷ d) part bytes hi lo h e =
    ap (λ (l : List ℕ). set (set l 0 hi) 1 lo) (put-behind (a ∷ b ∷ d) part 2 (omega arith)) ∙ ap (λ (l : List ℕ). hi ∷ lo ∷ l) e

pub filled : (p : ℕ) (parent : ℕ → ℕ) (now : Progress) (held d part : List ℕ) (bytes slots : ℕ) → 2 ≤ length d → length now.slots ≤ 65535
    → Going p parent now held (drop 2 d) part bytes slots
    → Filled now.slots d (set (set (put_mid 2 (length d - 2) d part) 0 (slots / 256 % 256)) 1 (slots % 256)) (bytes + 2) slots
filled p parent now held d part bytes slots h few going =
    record {
      few = few;
      made = going.made;
      counted = omega (arith, going.counted);
      wrote =
          two-in-front d part (slot_bytes now.slots) (slots / 256 % 256) (slots % 256) h going.wrote
          ∙ ap₂ (λ (hi lo : ℕ). front d (hi ∷ lo ∷ slot_bytes now.slots)) high (ap (λ (n : ℕ). n % 256) going.made);
    }
  where
    high : slots / 256 % 256 ≡ length now.slots / 256
    high = omega (arith, going.made)
