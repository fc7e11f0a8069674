-- The owners are the first to be taken: where no flag is up nobody owns the slot, and only probes are ever flagged. By what joining keeps.
use mathlib.Core.Path.{◌≡◌, refl, sym, ap, ◌∙◌}
use mathlib.Core.Bool.{Bool, true, false, ◌&&◌}
use mathlib.Core.List.{List}
use Prim.Native.Nat.{ℕ, ◌+◌, ◌-◌, ◌≤◌, ◌<◌}
use native.Mathlib.Omega.{arith}
use lib.Dec.{eqb}
use Rattle.meaning.specs.Words.{some, tab, places, some_probe, by_node}
use Rattle.meaning.specs.Yard.{is_probe}
use Rattle.meaning.specs.Conflict.{entry}
use Rattle.meaning.specs.Rounds.{holds, joined, owners_by_probe, owners_by_level}
use Rattle.laws.proofs.Turns.{some-found, some-none, none-some, some-where, get_or-tab}
use Rattle.laws.proofs.Walk.{probe-yes, probe-at}
use Rattle.laws.proofs.Slots.{and_left, only-joined, never}
use Rattle.laws.proofs.Joining.{nobody-chosen}
use Rattle.chosen.specs.Kept.{flag, blocked_by, Joining, nobody, owners_by, Chosen}
use Rattle.chosen.proofs.Owners.{joined_same, owner-may}

-- nobody blocks nobody
pub unblocked : (relation : ℕ → ℕ → Bool) → nobody ≡ blocked_by relation nobody
unfolding some tab
unblocked relation = refl

module _ (p : ℕ) (relation : ℕ → ℕ → Bool) (may : ℕ → Bool) where
  -- those chosen when each probe has had its turn
  abbrev taken : List Bool
  taken = joined p relation may nobody

  -- only probes are
  probes-only : (v : ℕ) → flag taken v ≡ true → is_probe p v ≡ true
  probes-only v e =
      let probe : ℕ → Bool = λ u. is_probe p u && may u in
      let same : taken ≡ joined p relation probe nobody =
      joined_same p relation may probe nobody (λ k h. ap (λ (b : Bool). b && may (k + 2)) (sym (probe-yes p (k + 2) (omega arith) (omega arith))))
      in
      and_left (is_probe p v) (may v)
      (only-joined p relation probe nobody (λ u h. never (sym (nobody-chosen places u) ∙ h)) v (ap (λ (l : List Bool). flag l v) (sym same) ∙ e))

  -- whether any flag is up is whether any probe is chosen
  any-chosen : p ≤ 63 → some places (flag taken) ≡ some_probe p (flag taken)
  any-chosen small = go (some places (flag taken)) refl
    where
      go : (b : Bool) → some places (flag taken) ≡ b → b ≡ some_probe p (flag taken)
      go false e = sym (none-some p (λ k. flag taken (k + 2)) (λ k h. some-none places (flag taken) e (k + 2) (omega arith)))
      go true e =
          let found = some-where places (flag taken) e in
          let v = found.0 in
          let at = probe-at p v (probes-only v found.2) in
          sym (some-found p (λ k. flag taken (k + 2)) (v - 2) at.0 (ap (flag taken) at.1 ∙ found.2))

module _ (p : ℕ) (small : p ≤ 63) (table : List (List Bool)) (own : List ℕ) (s : ℕ) (held : List ℕ) (mine : List Bool)
    (flags : mine ≡ owners_by_probe (by_node own) s (holds held)) where
  abbrev owners : List Bool
  owners = owners_by p table own s held

  -- who has the colour and holds a packet
  abbrev owner : ℕ → Bool
  owner v = eqb (by_node own v) s && holds held v

  -- the flags say who
  mine-say : (v : ℕ) → v < places → flag mine v ≡ owner v
  unfolding owners_by_probe
  mine-say v h = ap (λ (l : List Bool). flag l v) flags ∙ get_or-tab places owner v false h

  -- where no flag is up, nobody owns the slot
  pub chosen-nobody : some places (flag mine) ≡ false → (chosen blocked : List Bool) → Chosen p table own s held chosen blocked false
  chosen-nobody none chosen blocked =
      record {
        owned = sym (none-some p (λ k. flag owners (k + 2)) (λ k h. go k h (flag owners (k + 2)) refl));
        chose = λ q. never q;
        knows = λ q. never q;
      }
    where
      go : (k : ℕ) → k < p → (b : Bool) → flag owners (k + 2) ≡ b → b ≡ false
      go k h false e = refl
      go k h true e =
          sym (owner-may p (entry table) (by_node own) s (holds held) (k + 2) e) ∙ sym (mine-say (k + 2) (omega arith))
          ∙ some-none places (flag mine) none (k + 2) (omega arith)

  module _ (chosen blocked : List Bool) (first : Joining (entry table) (flag mine) nobody p chosen blocked) where
    first-chosen : chosen ≡ owners
    unfolding owners_by_level
    first-chosen = first.chose ∙ joined_same p (entry table) (flag mine) owner nobody (λ k h. mine-say (k + 2) (omega arith))

    pub chosen-first : (any : Bool) → any ≡ some places (flag chosen) → Chosen p table own s held chosen blocked any
    chosen-first any e =
        record {
          owned =
              e ∙ ap (λ (l : List Bool). some places (flag l)) first.chose ∙ any-chosen p (entry table) (flag mine) small
              ∙ ap (λ (l : List Bool). some_probe p (flag l)) (sym first.chose ∙ first-chosen);
          chose = λ _. first-chosen;
          knows = λ _. first.knows;
        }
