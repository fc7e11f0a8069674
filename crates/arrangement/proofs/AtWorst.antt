-- No arrangement of the same probes has more hops than the worst slots. By layers: a probe that counts n times is one of layers 1 to n; each layer of
-- levels has no more probes than that of places, which has the heaviest. So our own plans have no more slots either.
use mathlib.Core.Path.{◌≡◌, refl, sym, ap, ◌∙◌}
use mathlib.Core.Bool.{Bool, true, false, cond}
use mathlib.Core.List.{List}
use mathlib.Core.Logic.{⊎_elim}
use Prim.Native.Nat.{ℕ, zero, suc, ◌+◌, ◌*◌, ◌≤◌, ◌<◌, min}
use native.Mathlib.Nat.{mul-zero, mul-one, mul-le-mul_left}
use native.Mathlib.Omega.{arith}
use lib.Dec.{leb}
use lib.ListN.{length}
use borrow.Author.Tests.{leb-true, leb-false, le-leb, lt-leb}
use Rattle.meaning.specs.Words.{sum, sum_probes, some, count}
use Rattle.meaning.specs.Sheet.{probe_count, packets_of, level_of, hops}
use Rattle.meaning.specs.Rounds.{by_probe, by_level, slots_of}
use Rattle.meaning.specs.Answer.{is_accepted, sheet_test}
use Rattle.laws.proofs.Turns.{sum_same, sum-least, sum-constant, some-where, some-none}
use Rattle.laws.proofs.Slots.{true-or-false}
use Rattle.laws.proofs.Grounds.{level_most}
use Rattle.laws.proofs.Own.{by-probe-plan, by-level-plan}
use Rattle.limits.proofs.Sums.{sum-zero, sum-add, sum-times, sum-swap, together}
use Rattle.arrangement.specs.Arranged.{place_of, worst_slots}
use Rattle.arrangement.proofs.Heaviest.{heaviest}
use Rattle.arrangement.proofs.Ranked.{one, place-few, place-packets}
use Rattle.arrangement.proofs.Deeper.{deeper-few}

-- the numbers from 1 to p that are at most n
count-from-one : (p n : ℕ) → count p (λ j. leb (suc j) n) ≡ min p n
unfolding sum
count-from-one zero n = omega arith
count-from-one (suc p) n = go (leb (suc p) n) refl (count-from-one p n)
  where
    go : (b : Bool) → leb (suc p) n ≡ b → count p (λ j. leb (suc j) n) ≡ min p n → count p (λ j. leb (suc j) n) + one b ≡ min (suc p) n
    go true e before = omega (arith, leb-true (suc p) n e)
    go false e before = omega (arith, leb-false (suc p) n e)

-- what counts n times is in so many layers
times-layers : (p many n : ℕ) → sum p (λ j. cond (leb (suc j) n) many 0) ≡ many * min p n
times-layers p many n =
    sum_same p (λ j. cond (leb (suc j) n) many 0) (λ j. many * one (leb (suc j) n)) (λ j h. go (leb (suc j) n))
    ∙ sum-times p many (λ j. one (leb (suc j) n))
    ∙ ap (λ (x : ℕ). many * x) (count-from-one p n)
  where
    go : (b : Bool) → cond b many 0 ≡ many * one b
    go true = sym (mul-one many)
    go false = sym (mul-zero many)

-- who stands in layer j + 1
abbrev layer : (times : ℕ → ℕ) → ℕ → ℕ → Bool
layer times j v = leb (suc j) (times v)

layers : (p : ℕ) (packets times : ℕ → ℕ) → sum_probes p (λ v. packets v * min p (times v)) ≡ sum p (λ j. together p (layer times j) packets)
layers p packets times =
    sum_same p (λ k. packets (k + 2) * min p (times (k + 2))) (λ k. sum p (λ j. cond (leb (suc j) (times (k + 2))) (packets (k + 2)) 0))
    (λ k h. sym (times-layers p (packets (k + 2)) (times (k + 2))))
    ∙ sum-swap p p (λ k j. cond (leb (suc j) (times (k + 2))) (packets (k + 2)) 0)

-- those past j and those up to j are all
past-or-not : (p j : ℕ) (f : ℕ → ℕ) → count p (λ k. leb (suc j) (f k)) + count p (λ k. leb (f k) j) ≡ p
past-or-not p j f =
    sym (sum-add p (λ k. one (leb (suc j) (f k))) (λ k. one (leb (f k) j)))
    ∙ sum_same p (λ k. one (leb (suc j) (f k)) + one (leb (f k) j)) (λ _. 1) (λ k h. go (f k) (leb (suc j) (f k)) refl)
    ∙ sum-constant p 1
    ∙ mul-one p
  where
    go : (n : ℕ) (b : Bool) → leb (suc j) n ≡ b → one b + one (leb n j) ≡ 1
    go n true e = omega (arith, ap one (lt-leb n j (leb-true (suc j) n e)))
    go n false e = omega (arith, ap one (le-leb n j (omega (arith, leb-false (suc j) n e))))

module _ (s : List ℕ) (ok : is_accepted (sheet_test s) ≡ true) where
  abbrev p : ℕ
  p = probe_count s

  abbrev place : ℕ → ℕ
  place = place_of p (packets_of s)

  -- a layer of levels has no more probes than that of places
  layer-fewer : (j : ℕ) → j < p → count p (λ k. layer (level_of s) j (k + 2)) ≤ count p (λ k. layer place j (k + 2))
  layer-fewer j h =
      let rest = past-or-not p j (λ k. place (k + 2)) in
      let few = place-few (packets_of s) p j in
      ⊎_elim
      (λ (e : some p (λ k. layer (level_of s) j (k + 2)) ≡ true).
      let found = some-where p (λ k. layer (level_of s) j (k + 2)) e in
      omega (arith, deeper-few s ok j (found.0 + 2) (leb-true (suc j) (level_of s (found.0 + 2)) found.2)))
      (λ (e : some p (λ k. layer (level_of s) j (k + 2)) ≡ false).
      omega (
        arith,
        sum-zero p (λ k. one (layer (level_of s) j (k + 2))) (λ k hk. ap one (some-none p (λ i. layer (level_of s) j (i + 2)) e k hk)),
      ))
      (true-or-false (some p (λ k. layer (level_of s) j (k + 2))))

  layer-lighter : (j : ℕ) → j < p → together p (layer (level_of s) j) (packets_of s) ≤ together p (layer place j) (packets_of s)
  layer-lighter j h =
      heaviest p (layer (level_of s) j) (layer place j) (packets_of s)
      (λ u v hu hv eu ev.
      place-packets (packets_of s) p v u (omega (arith, leb-true (suc j) (place u) eu, leb-false (suc j) (place v) ev)))
      (layer-fewer j h)

  -- "Worst and best": no sheet with these probes and packets has more hops
  pub hops-worst : hops s ≤ worst_slots s
  unfolding hops worst_slots
  hops-worst =
      omega (
        arith,
        sum_same p (λ k. packets_of s (k + 2) * level_of s (k + 2)) (λ k. packets_of s (k + 2) * min p (level_of s (k + 2)))
            (λ k h. ap (λ (x : ℕ). packets_of s (k + 2) * x) (whole (k + 2))),
        layers p (packets_of s) (level_of s),
        sum-least p (λ j. together p (layer (level_of s) j) (packets_of s)) (λ j. together p (layer place j) (packets_of s)) layer-lighter,
        layers p (packets_of s) place,
        sum-least p (λ k. packets_of s (k + 2) * min p (place (k + 2))) (λ k. packets_of s (k + 2) * place (k + 2))
            (λ k h. mul-le-mul_left (packets_of s (k + 2)) (omega arith)),
      )
    where
      whole : (v : ℕ) → level_of s v ≡ min p (level_of s v)
      whole v = omega (arith, level_most s ok v)

  -- so our own plans have no more slots
  pub by-probe-worst : length (slots_of s (by_probe s)) ≤ worst_slots s
  by-probe-worst = omega (arith, (by-probe-plan s ok).few, hops-worst)

  pub by-level-worst : length (slots_of s (by_level s)) ≤ worst_slots s
  by-level-worst = omega (arith, (by-level-plan s ok).few, hops-worst)
