-- The limits hold of the telephone's answer: neither room nor count refuses an accepted sheet, so that its answer is whole, and what limits all plans limits ours.
use mathlib.Core.Path.{◌≡◌, refl, sym, ap, ◌∙◌, subst}
use mathlib.Core.Bool.{Bool, true, false}
use mathlib.Core.List.{List}
use mathlib.Core.Logic.{◌≢◌, ⊎_elim}
use Prim.Native.Nat.{ℕ, ◌+◌, ◌-◌, ◌*◌, ◌/◌, ◌≤◌, ◌<◌, min}
use native.Mathlib.Nat.{le_refl, mul-le-mul, lt-div-mul-add}
use native.Mathlib.Omega.{arith}
use lib.Dec.{leb}
use lib.ListN.{length, take}
use borrow.Author.Tests.{leb-true, leb-false}
use Rattle.meaning.specs.declared.Mode.TheVariants.{Packets}
use Rattle.meaning.specs.declared.Told.{Told}
use Rattle.meaning.specs.declared.Verdict.{Verdict}
use Rattle.meaning.specs.Sheet.{deciding_sheet, least_slots}
use Rattle.meaning.specs.Colour.{colours_used, probe_colours}
use Rattle.meaning.specs.Plan.{plan_bytes, any_plan}
use Rattle.meaning.specs.Rounds.{by_probe, slots_of}
use Rattle.meaning.specs.Answer.{accepted, is_accepted, sheet_test, plan_test}
use Rattle.meaning.specs.Judge.{judge}
use Rattle.meaning.specs.Telephone.{at_most, times_any, asked}
use Rattle.laws.proofs.Turns.{same-or-other}
use Rattle.laws.proofs.Slots.{true-or-false}
use Rattle.laws.proofs.PlanMade.{room-passes}
use Rattle.laws.proofs.Telling.{told-plan, told-refusal}
use Rattle.laws.proofs.Own.{OwnPlan, by-probe-plan}
use Rattle.limits.proofs.Hops.{hops-limit}
use Rattle.limits.proofs.Deciding.{decided}
use Rattle.limits.proofs.Fewest.{slots-least-any, no-hops}
use Rattle.limits.proofs.MostByProbe.{by-probe-most}
use Rattle.limits.proofs.RoundBeatsSlot.{by-probe-any}
use Rattle.telephone.proofs.Telephoned.{whole, nothing, asked-tells}

-- what both numbers of times are enough for, the smaller is
smaller-enough : (a b ours theirs : ℕ) → ours ≤ a * theirs → ours ≤ b * theirs → ours ≤ min a b * theirs
smaller-enough a b ours theirs by-a by-b = go (leb a b) refl
  where
    go : (t : Bool) → leb a b ≡ t → ours ≤ min a b * theirs
    go true e = let is : a ≡ min a b = omega (arith, leb-true) in subst (λ (n : ℕ). ours ≤ n * theirs) is by-a
    go false e = let is : b ≡ min a b = omega (arith, leb-false) in subst (λ (n : ℕ). ours ≤ n * theirs) is by-b

-- ours by the fewest, rounded up, times the fewest is no less than ours
quotient-enough : (ours fewest theirs : ℕ) → (fewest ≡ 0 → ours ≡ 0) → fewest ≤ theirs → ours ≤ (ours + (fewest - 1)) / fewest * theirs
quotient-enough ours fewest theirs none least =
    ⊎_elim (λ (e : fewest ≡ 0). omega (arith, none e))
    (λ (some : fewest ≢ 0).
    let more : 0 < fewest = omega arith in
    omega (arith, lt-div-mul-add {a = ours + (fewest - 1)} more, mul-le-mul (le_refl ((ours + (fewest - 1)) / fewest)) least))
    (same-or-other fewest 0)

module _ (s : List ℕ) where
  abbrev slots : List (List ℕ)
  slots = slots_of s (by_probe s)

  -- an accepted sheet
  module _ (ok : is_accepted (sheet_test s) ≡ true) where
    own : OwnPlan Packets s (by_probe s)
    own = by-probe-plan s ok

    tests-pass : plan_test s any_plan slots ≡ accepted
    tests-pass =
        let most = hops-limit s ok in
        room-passes Packets by_probe s any_plan ok (omega (arith, most)) (omega (arith, own.few, most))

    -- Demand 3: it is answered, and never by 9 or 10: the fewest of any plan, our plan's slots, at most the smaller of the two, and how many times anybody's
    pub answered : asked s
        ≡ record {
          outcome = accepted;
          least = least_slots s;
          ours = length (slots_of s (by_probe s));
          most = at_most s (colours_used (probe_colours s));
          times = times_any (colours_used (probe_colours s)) (length (slots_of s (by_probe s))) (least_slots s);
        }
    unfolding by_probe
    answered = asked-tells s ∙ told-plan Packets by_probe s any_plan (whole s) nothing tests-pass

    fewest-slots : least_slots s ≤ length slots
    fewest-slots =
        let passes = ap (λ (v : Verdict). is_accepted v.outcome) own.passed in
        omega (arith, slots-least-any s (plan_bytes slots) passes, ap (λ (v : Verdict). v.slots) own.passed)

    -- where no slot is needed there is no hop, so that ours has none
    no-slots : least_slots s ≡ 0 → length slots ≡ 0
    no-slots none = omega (arith, own.few, no-hops s none)

    times-slots : (plan : List ℕ) → is_accepted (judge s plan).outcome ≡ true
        → length slots ≤ times_any (colours_used (probe_colours s)) (length slots) (least_slots s) * (judge s plan).slots
    times-slots plan passed =
        smaller-enough (colours_used (probe_colours s)) ((length slots + (least_slots s - 1)) / least_slots s) (length slots) (judge s plan).slots
        (by-probe-any s plan passed)
        (quotient-enough (length slots) (least_slots s) (judge s plan).slots no-slots (slots-least-any s plan passed))

  -- a refused sheet
  module _ (refused : is_accepted (sheet_test s) ≡ false) where
    -- Demand 3: on refusal the sheet's own number and place are told, and four zeros
    pub not-answered : asked s ≡ record { outcome = sheet_test s; least = 0; ours = 0; most = 0; times = 0 }
    not-answered = asked-tells s ∙ told-refusal Packets by_probe s any_plan (whole s) nothing refused

  -- what holds of both answers holds of every sheet
  by_answer : (P : Told → Type 0)
      → (is_accepted (sheet_test s) ≡ true
      → P (record {
        outcome = accepted;
        least = least_slots s;
        ours = length slots;
        most = at_most s (colours_used (probe_colours s));
        times = times_any (colours_used (probe_colours s)) (length slots) (least_slots s);
      }))
      → (is_accepted (sheet_test s) ≡ false → P (record { outcome = sheet_test s; least = 0; ours = 0; most = 0; times = 0 })) → P (asked s)
  by_answer P whole-told nothing-told =
      ⊎_elim (λ ok. subst P (sym (answered ok)) (whole-told ok)) (λ refused. subst P (sym (not-answered refused)) (nothing-told refused))
      (true-or-false (is_accepted (sheet_test s)))

  -- Demand 3: a sheet is answered exactly when it is accepted
  pub answered-exactly : is_accepted (asked s).outcome ≡ is_accepted (sheet_test s)
  answered-exactly = by_answer (λ t. is_accepted t.outcome ≡ is_accepted (sheet_test s)) sym (λ _. refl)

  -- Demand 3: at least is no more than ours ..
  pub least-ours : (asked s).least ≤ (asked s).ours
  least-ours = by_answer (λ t. t.least ≤ t.ours) fewest-slots (λ _. omega arith)

  -- .. and ours no more than at most, by both limits
  pub ours-most : (asked s).ours ≤ (asked s).most
  ours-most = by_answer (λ t. t.ours ≤ t.most) (λ ok. omega (arith, by-probe-most s ok, (own ok).few)) (λ _. omega arith)

  -- Demand 3: no plan that the judge passes, from anyone, has fewer slots than at least
  pub least-any : (plan : List ℕ) → is_accepted (judge s plan).outcome ≡ true → (asked s).least ≤ (judge s plan).slots
  least-any plan passed = by_answer (λ t. t.least ≤ (judge s plan).slots) (λ _. slots-least-any s plan passed) (λ _. omega arith)

  -- Demand 3: so where ours has no more than at least, it is the shortest there is
  pub ours-shortest : (plan : List ℕ) → is_accepted (judge s plan).outcome ≡ true → (asked s).ours ≡ (asked s).least → (asked s).ours ≤ (judge s plan).slots
  ours-shortest plan passed same = omega (arith, same, least-any plan passed)

  -- Demand 3: ours is at most so many times as long as any plan that the judge passes, from anyone
  pub ours-times : (plan : List ℕ) → is_accepted (judge s plan).outcome ≡ true → (asked s).ours ≤ (asked s).times * (judge s plan).slots
  ours-times plan passed =
      by_answer (λ t. t.ours ≤ t.times * (judge s plan).slots) (λ ok. times-slots ok plan passed) (λ _. omega arith)

-- "The lister": the bytes that decide every other answer decide this one too
pub told-decided : (s : List ℕ) → asked (take deciding_sheet s) ≡ asked s
told-decided = decided asked (λ o. record { outcome = o; least = 0; ours = 0; most = 0; times = 0 }) not-answered
