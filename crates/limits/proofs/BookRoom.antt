-- How long a wake book is, and that 119,322 bytes are room for any. Each probe has four bytes and two for each slot in which it wakes; of p probes with at
-- most 15 packets each, and the levels together at most p + .. + 1, these are at most 30 p p + 4 p.
use mathlib.Core.Path.{◌≡◌, refl, sym, ap, ◌∙◌}
use mathlib.Core.Bool.{Bool, true, false}
use mathlib.Core.List.{List, [], ◌∷◌, ◌++◌}
use mathlib.Core.Logic.{⊎_elim}
use Prim.Native.Nat.{ℕ, zero, suc, ◌+◌, ◌-◌, ◌*◌, ◌≤◌}
use native.Mathlib.Nat.{le_refl, mul-add, add-mul, mul-one, mul-le-mul}
use native.Mathlib.Omega.{arith}
use borrow.Author.Tests.{le-ltb}
use lib.Dec.{ltb}
use lib.ListN.{length, length-append}
use Rattle.meaning.specs.declared.Mode.TheVariants.{Packets}
use Rattle.meaning.specs.declared.Outcome.{Outcome}
use Rattle.meaning.specs.declared.Verdict.{Verdict}
use Rattle.meaning.specs.declared.Judgement.{Judgement}
use Rattle.meaning.specs.Words.{sum, sum_probes, in_turn}
use Rattle.meaning.specs.Yard.{is_probe, branch_packets}
use Rattle.meaning.specs.Sheet.{two_at, probe_count, parent_of, packets_of, level_of, hops, all_packets}
use Rattle.meaning.specs.Conflict.{entry, conflict_table}
use Rattle.meaning.specs.Rounds.{outside}
use Rattle.meaning.specs.Legal.{held_first}
use Rattle.meaning.specs.Answer.{accepted, is_accepted, given, ◌then◌}
use Rattle.meaning.specs.Judge.{slots_done, plan_judged_by, plan_judged, judge_in, judge, judgement}
use Rattle.meaning.specs.Book.{sends, hears, two_each, counted, wake_book, any_book, BookMade, book_made}
use Rattle.laws.proofs.Turns.{sum_same, sum-least, sum-constant}
use Rattle.laws.proofs.Walk.{probe-yes}
use Rattle.laws.proofs.Slots.{true-or-false}
use Rattle.laws.proofs.Accepted.{then-stays, then-goes, then-accepted, given-accepted, accepted-yard}
use Rattle.laws.proofs.Exact.{gives_none}
use Rattle.laws.proofs.Blame.{without-names}
use Rattle.laws.proofs.Grounds.{few-probes, level-least}
use Rattle.limits.proofs.Sums.{sum-add, sum-times}
use Rattle.limits.proofs.Branch.{branch-own}
use Rattle.limits.proofs.AcceptedYard as Yard
use Rattle.limits.proofs.PlanRuns.{passed-ran}
use Rattle.limits.proofs.Hops.{levels-most}
use Rattle.limits.proofs.BookLength.{hears-length, book-length}

-- bytes in turn are as many as each gives
turns-length : (n : ℕ) (f : ℕ → List ℕ) → length (in_turn n f) ≡ sum n (λ k. length (f k))
unfolding in_turn sum
turns-length zero f = refl
turns-length (suc n) f = omega (arith, length-append (in_turn n f) (f n), turns-length n f)

pub two-each-length : (l : List ℕ) → length (two_each l) ≡ 2 * length l
unfolding two_each
two-each-length [] = refl
two-each-length (x ∷ l) = omega (arith, two-each-length l)

pub counted-length : (l : List ℕ) → length (counted l) ≡ 2 + 2 * length l
counted-length l = omega (arith, two-each-length (length l ∷ l))

module _ (s plan : List ℕ) where
  -- of any plan: four bytes of each probe, and two for each slot in which it wakes
  wake-book-length : length (wake_book s plan) ≡ sum_probes (probe_count s) (λ v. 4 + 2 * length (sends plan v) + 2 * length (hears s plan v))
  unfolding wake_book
  wake-book-length =
      turns-length (probe_count s) (λ k. counted (sends plan (k + 2)) ++ counted (hears s plan (k + 2)))
      ∙ sum_same (probe_count s) (λ k. length (counted (sends plan (k + 2)) ++ counted (hears s plan (k + 2))))
      (λ k. 4 + 2 * length (sends plan (k + 2)) + 2 * length (hears s plan (k + 2)))
      (λ k _.
      omega (
        arith,
        length-append (counted (sends plan (k + 2))) (counted (hears s plan (k + 2))),
        counted-length (sends plan (k + 2)),
        counted-length (hears s plan (k + 2)),
      ))

-- of a probe at level l with g packets
one-most : (g l : ℕ) → g ≤ 15 → 1 ≤ l → 4 * (g * l) + 30 ≤ 2 * g + 60 * l
one-most g l few deep =
    let rest : ℕ = 15 - g in
    let whole : g + rest ≡ 15 = omega arith in
    omega (arith, add-mul g rest l, ap (λ (n : ℕ). n * l) whole, mul-le-mul (le_refl rest) deep, mul-one rest)

module _ (s plan : List ℕ) (h : is_accepted (judge s plan).outcome ≡ true) where
  -- the length is told by the sheet alone
  pub book-long : length (wake_book s plan) + 2 * all_packets s ≡ 4 * probe_count s + 4 * hops s
  book-long = omega (arith, wake-book-length s plan, book-length s plan h)

  hops-and-packets : 4 * hops s + 30 * probe_count s ≤ 2 * all_packets s + 60 * sum_probes (probe_count s) (level_of s)
  unfolding hops all_packets
  hops-and-packets =
      let ok = (passed-ran s plan h).sheet in
      let p : ℕ = probe_count s in
      omega (
        arith,
        sum-least p (λ k. 4 * (packets_of s (k + 2) * level_of s (k + 2)) + 30) (λ k. 2 * packets_of s (k + 2) + 60 * level_of s (k + 2))
            (λ k hk.
            let probe = probe-yes p (k + 2) (omega arith) (omega arith) in
            one-most (packets_of s (k + 2)) (level_of s (k + 2)) ((accepted-yard s ok).probe (k + 2) probe).packets_most (level-least s ok (k + 2) probe)),
        sum-add p (λ k. 4 * (packets_of s (k + 2) * level_of s (k + 2))) (λ _. 30),
        sum-times p 4 (λ k. packets_of s (k + 2) * level_of s (k + 2)),
        sum-constant p 30,
        sum-add p (λ k. 2 * packets_of s (k + 2)) (λ k. 60 * level_of s (k + 2)),
        sum-times p 2 (λ k. packets_of s (k + 2)),
        sum-times p 60 (λ k. level_of s (k + 2)),
      )

  -- room for any book
  pub book-most : length (wake_book s plan) ≤ any_book
  book-most =
      let ok = (passed-ran s plan h).sheet in
      let few = few-probes s ok in
      omega (
        arith,
        book-long,
        hops-and-packets,
        levels-most s ok,
        mul-add (probe_count s) (probe_count s) 1,
        mul-one (probe_count s),
        mul-le-mul few few,
        few,
      )

  -- a probe hears what its branch sends but its own packets
  pub hears-rest : (v : ℕ) → is_probe (probe_count s) v ≡ true
      → length (hears s plan v) + packets_of s v ≡ branch_packets (probe_count s) (parent_of s) (packets_of s) v
  hears-rest v hv =
      let ok = (passed-ran s plan h).sheet in
      omega (arith, hears-length s plan h v, branch-own (probe_count s) (parent_of s) (Yard.rooted s ok) (packets_of s) v hv)

  -- a passed plan's outcome is 0 with place 0
  pub passed-whole : (judge s plan).outcome ≡ accepted
  unfolding judge_in plan_judged plan_judged_by
  passed-whole =
      let sheet = then-accepted _ _ h in
      let long = then-accepted _ _ sheet.1 in
      let slots = then-accepted _ _ long.1 in
      let left = then-accepted _ _ slots.1 in
      then-goes _ _ sheet.0
      ∙ then-goes _ _ long.0
      ∙ then-goes _ _ slots.0
      ∙ then-goes _ _ left.0
      ∙ gives_none 17 (two_at plan 0) left_out (given-accepted 17 (two_at plan 0) left_out refl left.1)
    where
      left_out : Bool
      left_out = outside (probe_count s) (slots_done Packets (probe_count s) (parent_of s) (entry (conflict_table s)) (held_first s) plan).held

-- what is made, by whether it is made
abbrev pub made_by : Judgement → List ℕ → Outcome → Bool → BookMade
made_by judged book outcome true = record { answer = record { outcome = outcome; names = judged.names; bytes = length book }; written = book }
made_by judged book outcome false = record { answer = record { outcome = outcome; names = judged.names; bytes = 0 }; written = [] }

module _ (s plan : List ℕ) (room : ℕ) where
  -- the judge's number first, then 22
  abbrev pub book_outcome : Outcome
  book_outcome = (judgement s plan).verdict.outcome then given 22 0 (ltb room (length (wake_book s plan)))

  pub book-by : (b : Bool) → is_accepted book_outcome ≡ b → book_made s plan room ≡ made_by (judgement s plan) (wake_book s plan) book_outcome b
  unfolding book_made
  book-by true e = rw e
  book-by false e = rw e

  made-outcome : (b : Bool) → (made_by (judgement s plan) (wake_book s plan) book_outcome b).answer.outcome ≡ book_outcome
  made-outcome true = refl
  made-outcome false = refl

  -- where there is room for any book the judge's number is the answer, and 22 is never given
  pub room-for-any : any_book ≤ room → (book_made s plan room).answer.outcome ≡ (judgement s plan).verdict.outcome
  room-for-any enough =
      ap (λ (made : BookMade). made.answer.outcome) (book-by (is_accepted book_outcome) refl)
      ∙ made-outcome (is_accepted book_outcome)
      ∙ ⊎_elim
      (λ (h : is_accepted (judgement s plan).verdict.outcome ≡ true).
      let passed : is_accepted (judge s plan).outcome ≡ true = ap (λ (v : Verdict). is_accepted v.outcome) (sym (without-names Packets s plan)) ∙ h in
      then-goes (judgement s plan).verdict.outcome _ h
      ∙ gives_none 22 0 _ (le-ltb room (length (wake_book s plan)) (omega (arith, enough, book-most s plan passed)))
      ∙ sym (ap (λ (v : Verdict). v.outcome) (without-names Packets s plan) ∙ passed-whole s plan passed))
      (λ (h : is_accepted (judgement s plan).verdict.outcome ≡ false). then-stays (judgement s plan).verdict.outcome _ h)
      (true-or-false (is_accepted (judgement s plan).verdict.outcome))
