-- `sheet::counts_test` meets its contract: at each answer the law of that answer, from the counts that were read and the tests that led there.
use native.Mathlib.Omega.{arith}
use mathlib.Core.Path.{◌≡◌, ap, ◌∙◌}
use Prim.Native.Nat.{ℕ, ◌+◌, ◌*◌, ◌/◌, ◌≤◌}
use lib.ListN.{length}
use mathlib.Core.List.{List}
use Rattle.meaning.specs.Sheet.{probe_count, pair_count_at, pair_count}
use Rattle.laws.proofs.Accepted.{pairs-of-few}
use Rattle.sheet.proofs.Counts.{Possible, empty-sheet, many-probes, no-pair-count, many-pairs, too_short, too_long, counts-passed}
use Rattle.sheet.proofs.counts_test.Goals as goal

-- as many pairs as there can be, of the number read and of the sheet's
most-pairs : (a b : ℕ) → a ≡ b → a * (a + 1) / 2 ≡ b * (b + 1) / 2
most-pairs a b e = ap (λ (p : ℕ). p * (p + 1) / 2) e

-- the counts as they were read and tested are there and possible
possible : (s : List ℕ) (p q : ℕ) → (length s ≡ 0 → ⊥) → p ≡ probe_count s → p ≤ 63 → pair_count_at s + 2 ≤ length s
    → q ≡ pair_count s → q ≤ p * (p + 1) / 2 → Possible s
possible s p q some read few counted pairs few_pairs =
    record {
      some = some;
      few = omega arith;
      counted = counted;
      few_pairs = omega (arith, most-pairs p (probe_count s) read);
    }

pub returns-then-length-eq0 : goal.returns-then-length-eq0
returns-then-length-eq0 c =
    c.of_the_sheet.ensures ∙ empty-sheet _ c.if-length-eq0.true

pub returns-then-p-gt63 : goal.returns-then-p-gt63
returns-then-p-gt63 c =
    c.of_the_sheet-then-p-gt63.ensures ∙ many-probes _ c.if-length-eq0.false (omega (arith, c.number_at-p.ensures))

pub returns-then-length-at : goal.returns-then-length-at
returns-then-length-at c =
    c.of_the_sheet-then-length-at.ensures ∙ no-pair-count _ c.if-length-eq0.false (omega (arith, c.number_at-p.ensures)) (omega (arith, c.pair_count_at-at.ensures))

pub overflow_mul-p : goal.overflow_mul-p
overflow_mul-p c =
    omega (arith, pairs-of-few c.number_at-p.result (omega arith))

pub returns-then-p-q : goal.returns-then-p-q
returns-then-p-q c =
    let few : probe_count c.args.sheet.now ≤ 63 = omega (arith, c.number_at-p.ensures) in
    let counted : pair_count_at c.args.sheet.now + 2 ≤ length c.args.sheet.now = omega (arith, c.pair_count_at-at.ensures) in
    c.of_the_sheet-then-p-q.ensures ∙ many-pairs _ c.if-length-eq0.false few counted
    (omega (arith, c.pair_count-q.ensures, most-pairs _ _ c.number_at-p.ensures))

pub returns-then-length-whole : goal.returns-then-length-whole
returns-then-length-whole c =
    let counts : Possible c.args.sheet.now =
    possible _ _ _ c.if-length-eq0.false c.number_at-p.ensures c.if-p-gt63.false
    (omega (arith, c.pair_count_at-at.ensures)) c.pair_count-q.ensures c.if-p-q.false in
    c.of_the_sheet-then-length-whole.ensures ∙ too_short _ counts (omega (arith, c.pair_count-q.ensures, c.pair_count_at-at.ensures))

pub returns-then-whole-length : goal.returns-then-whole-length
returns-then-whole-length c =
    let counts : Possible c.args.sheet.now =
    possible _ _ _ c.if-length-eq0.false c.number_at-p.ensures c.if-p-gt63.false
    (omega (arith, c.pair_count_at-at.ensures)) c.pair_count-q.ensures c.if-p-q.false in
    c.of_the_sheet-then-whole-length.ensures ∙ too_long _ counts (omega (arith, c.pair_count-q.ensures, c.pair_count_at-at.ensures))

pub returns : goal.returns
returns c =
    let counts : Possible c.args.sheet.now =
    possible _ _ _ c.if-length-eq0.false c.number_at-p.ensures c.if-p-gt63.false
    (omega (arith, c.pair_count_at-at.ensures)) c.pair_count-q.ensures c.if-p-q.false in
    counts-passed _ counts (omega (arith, c.pair_count-q.ensures, c.pair_count_at-at.ensures))
