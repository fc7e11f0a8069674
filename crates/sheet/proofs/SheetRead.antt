-- The whole reading of a sheet, stage by stage as the code takes it: a stage that refuses decides, and where none does the tree has the sheet's own numbers.
use mathlib.Core.Path.{◌≡◌, refl, sym, ap, ap₂, ◌∙◌, fun_ext}
use mathlib.Core.Bool.{true, false}
use mathlib.Core.List.{List}
use Prim.Native.Nat.{ℕ, ◌+◌, ◌*◌, ◌≤◌}
use native.Mathlib.Nat.{add-zero}
use native.Mathlib.Omega.{arith}
use borrow.Author.Tests.{ltb-false}
use lib.ListN.{get_or}
use Rattle.meaning.specs.declared.Refusal.{Refusal}
use Rattle.meaning.specs.declared.Outcome.{Outcome}
use Rattle.meaning.specs.Results.{outcome_of}
use Rattle.meaning.specs.Words.{tab, places}
use Rattle.meaning.specs.Yard.{hops_of}
use Rattle.meaning.specs.Sheet.{probe_count, probe_records, pair_count, pair_records, parent_of, packets_of, level_of, hops}
use Rattle.meaning.specs.Colour.{levels}
use Rattle.meaning.specs.Answer.{accepted, is_accepted, ◌then◌, in_order, probe_test, walk_test, pair_test, counts_test, sheet_test}
use Rattle.laws.proofs.Turns.{sum_same, get_or-tab, get_or-places}
use Rattle.laws.proofs.Walk.{probe-past}
use Rattle.laws.proofs.Accepted.{then-stays, then-goes, then-accepted, given-accepted, parent-outside}
use Rattle.laws.proofs.Grounds as Grounds
use Rattle.laws.proofs.Refused.{refused}
use Rattle.sheet.specs.Tree.{record_byte, levels_by, tree_of}

module _ (s : List ℕ) where
  abbrev pub probes_answer : Outcome
  probes_answer = in_order (probe_count s) (probe_test (probe_records s) (probe_count s))

  abbrev pub walks_answer : Outcome
  walks_answer = in_order (probe_count s) (walk_test (parent_of s) (probe_count s))

  abbrev pub pairs_answer : Outcome
  pairs_answer = in_order (pair_count s) (pair_test (pair_records s) (probe_count s))

  stages : (counts_test s then (probes_answer then (walks_answer then pairs_answer))) ≡ sheet_test s
  unfolding sheet_test
  stages = refl

number-given : (refusal : Refusal) (e : Outcome) → outcome_of refusal ≡ e → is_accepted e ≡ false
number-given refusal e is = ap (λ (x : Outcome). is_accepted x) (sym is) ∙ refused refusal

pub no_number : {e : Outcome} → accepted ≡ e → is_accepted e ≡ true
no_number is = ap (λ (x : Outcome). is_accepted x) (sym is)

parents-meant : (s : List ℕ) → record_byte (probe_records s) (probe_count s) 0 ≡ parent_of s
unfolding record_byte parent_of
parents-meant s = fun_ext (λ v. simp add-zero)

packets-meant : (s : List ℕ) → record_byte (probe_records s) (probe_count s) 1 ≡ packets_of s
unfolding record_byte packets_of
packets-meant s = refl

-- the tables by node are those of the meaning
module _ (s records : List ℕ) (p : ℕ) (p_is : p ≡ probe_count s) (records_is : records ≡ probe_records s) where
  pub probes-read : in_order p (probe_test records p) ≡ probes_answer s
  probes-read = ap₂ (λ (n : ℕ) (l : List ℕ). in_order n (probe_test l n)) p_is records_is

  table-read : (side : ℕ) → tab places (record_byte records p side) ≡ tab places (record_byte (probe_records s) (probe_count s) side)
  table-read side = ap₂ (λ (n : ℕ) (l : List ℕ). tab places (record_byte l n side)) p_is records_is

  pub parents-read : tab places (record_byte records p 0) ≡ tab places (parent_of s)
  parents-read = table-read 0 ∙ ap (λ (f : ℕ → ℕ). tab places f) (parents-meant s)

  pub packets-read : tab places (record_byte records p 1) ≡ tab places (packets_of s)
  packets-read = table-read 1 ∙ ap (λ (f : ℕ → ℕ). tab places f) (packets-meant s)

pub pairs-read : (s records : List ℕ) (p q : ℕ) → p ≡ probe_count s → q ≡ pair_count s → records ≡ pair_records s
    → in_order q (pair_test records p) ≡ pairs_answer s
pairs-read s records p q p_is q_is records_is =
    ap₂ (λ (n : ℕ) (l : List ℕ). in_order n (pair_test l p)) q_is records_is
    ∙ ap (λ (n : ℕ). in_order (pair_count s) (pair_test (pair_records s) n)) p_is

module _ (s : List ℕ) where
  -- the counts decide
  pub counts-decide : (refusal : Refusal) → outcome_of refusal ≡ counts_test s → outcome_of refusal ≡ sheet_test s
  counts-decide refusal is = is ∙ sym (then-stays _ _ (number-given refusal _ is)) ∙ stages s

  module _ (counts : is_accepted (counts_test s) ≡ true) where
    pub few-probes : probe_count s ≤ 63
    unfolding counts_test
    few-probes = ltb-false 63 (probe_count s) (given-accepted 2 0 _ refl (then-accepted _ _ (then-accepted _ _ counts).1).0)

    -- the probes decide
    pub probes-decide : (refusal : Refusal) → outcome_of refusal ≡ probes_answer s → outcome_of refusal ≡ sheet_test s
    probes-decide refusal is = is ∙ sym (then-stays _ _ (number-given refusal _ is)) ∙ sym (then-goes _ _ counts) ∙ stages s

    -- the parents by node, read at any number
    parent-read : (v : ℕ) → get_or (tab places (parent_of s)) v 0 ≡ parent_of s v
    parent-read = get_or-places (parent_of s) 0 (λ v past. parent-outside s v (probe-past (probe_count s) v (omega (arith, few-probes))))

    -- the walks of what was read are the sheet's
    module _ (p : ℕ) (parents : List ℕ) (p_is : p ≡ probe_count s) (parents_is : parents ≡ tab places (parent_of s)) where
      walks-are : {A : Type 0} (told : ℕ → (ℕ → ℕ) → A) → told p (λ v. get_or parents v 0) ≡ told (probe_count s) (parent_of s)
      walks-are told =
          ap₂ (λ (n : ℕ) (parent : ℕ → ℕ). told n parent) p_is
          (fun_ext (λ v. ap (λ (l : List ℕ). get_or l v 0) parents_is ∙ parent-read v))

      pub walks-read : in_order p (walk_test (λ v. get_or parents v 0) p) ≡ walks_answer s
      walks-read = walks-are (λ n parent. in_order n (walk_test parent n))

      pub levels-read : levels_by (λ v. get_or parents v 0) p ≡ levels s
      unfolding levels level_of
      levels-read = walks-are (λ n parent. levels_by parent n)

    module _ (probes : is_accepted (probes_answer s) ≡ true) where
      behind-probes : (walks_answer s then pairs_answer s) ≡ sheet_test s
      behind-probes = sym (then-goes _ _ probes) ∙ sym (then-goes _ _ counts) ∙ stages s

      -- the walks decide
      pub walks-decide : (refusal : Refusal) → outcome_of refusal ≡ walks_answer s → outcome_of refusal ≡ sheet_test s
      walks-decide refusal is = is ∙ sym (then-stays _ _ (number-given refusal _ is)) ∙ behind-probes

      module _ (walks : is_accepted (walks_answer s) ≡ true) where
        -- the pairs decide, whatever they say
        pub pairs-decide : pairs_answer s ≡ sheet_test s
        pairs-decide = sym (then-goes _ _ walks) ∙ behind-probes

    -- no number is given
    module _ (accepts : is_accepted (sheet_test s) ≡ true) where
      hops-read : hops_of (probe_count s) (λ v. get_or (tab places (packets_of s)) v 0) (λ v. get_or (levels s) v 0) ≡ hops s
      unfolding hops levels
      hops-read =
          sum_same (probe_count s) (λ k. get_or (tab places (packets_of s)) (k + 2) 0 * get_or (tab places (level_of s)) (k + 2) 0)
          (λ k. packets_of s (k + 2) * level_of s (k + 2))
          (λ k h.
          ap₂ ◌*◌ (Grounds.packets-read s accepts (k + 2)) (get_or-tab places (level_of s) (k + 2) 0 (omega (arith, few-probes))))

      pub tree-read : (p : ℕ) (parents packets its-levels : List ℕ) (its-hops : ℕ) → p ≡ probe_count s → parents ≡ tab places (parent_of s)
          → packets ≡ tab places (packets_of s) → its-levels ≡ levels s
          → its-hops ≡ hops_of p (λ v. get_or packets v 0) (λ v. get_or its-levels v 0)
          → record { probes = p; parents = parents; packets = packets; levels = its-levels; hops = its-hops } ≡ tree_of s
      unfolding tree_of
      tree-read p parents packets its-levels its-hops p_is parents_is packets_is levels_is hops_is =
          simp (hops_is, p_is, parents_is, packets_is, levels_is, hops-read)
