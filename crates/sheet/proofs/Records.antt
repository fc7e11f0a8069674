-- The tests of one record as the code makes them: `a` and `b` are the two bytes that it read, and `wrong` is what a comparison of them said. Each law
-- rewrites the definition with what is known at one of the code's answers.
use mathlib.Core.Path.{◌≡◌}
use mathlib.Core.Bool.{Bool, true, false, ◌||◌, ◌&&◌}
use mathlib.Core.List.{List}
use Prim.Native.Nat.{ℕ, ◌+◌, ◌-◌}
use native.Mathlib.Omega.{arith}
use borrow.Author.Tests.{lt-ltb, le-ltb}
use lib.Dec.{eqb, ltb, leb}
use Rattle.meaning.specs.Sheet.{first_of, second_of}
use Rattle.meaning.specs.Answer.{accepted, ◌then◌, probe_test, pair_test}

module _ (records : List ℕ) (p k a : ℕ) (parent_wrong : Bool) (first : a ≡ first_of records k)
    (parent : parent_wrong ≡ (eqb a 0 || ltb (p + 1) a || eqb a (k + 2))) where
  pub parent-refused : parent_wrong ≡ true → record { number = 4; place = k + 2 } ≡ probe_test records p k
  unfolding probe_test ◌then◌
  parent-refused wrong = simp (← first, ← parent, wrong)

  module _ (right : parent_wrong ≡ false) (b : ℕ) (packets_wrong : Bool) (second : b ≡ second_of records k)
      (packets : packets_wrong ≡ ltb 15 b) where
    pub packets-refused : packets_wrong ≡ true → record { number = 5; place = k + 2 } ≡ probe_test records p k
    unfolding probe_test ◌then◌
    packets-refused wrong = simp (← first, ← parent, right, ← second, ← packets, wrong)

    pub probe-passed : packets_wrong ≡ false → accepted ≡ probe_test records p k
    unfolding probe_test ◌then◌
    probe-passed fine = simp (← first, ← parent, right, ← second, ← packets, fine)

module _ (records : List ℕ) (p k a b : ℕ) (pair_wrong : Bool) (first : a ≡ first_of records k) (second : b ≡ second_of records k)
    (pair : pair_wrong ≡ (eqb a 0 || leb b a || ltb (p + 1) b)) where
  pub pair-refused : pair_wrong ≡ true → record { number = 7; place = k + 1 } ≡ pair_test records p k
  unfolding pair_test ◌then◌
  pair-refused wrong = simp (← first, ← second, ← pair, wrong)

  module _ (right : pair_wrong ≡ false) where
    pub first-passed : k ≡ 0 → accepted ≡ pair_test records p k
    unfolding pair_test ◌then◌
    first-passed h = simp (← first, ← second, ← pair, right, le-ltb 0 k (omega arith))

    module _ (more : k ≡ 0 → ⊥) (a₀ b₀ : ℕ) (rises : Bool) (first₀ : a₀ ≡ first_of records (k - 1)) (second₀ : b₀ ≡ second_of records (k - 1))
        (order : rises ≡ (ltb a₀ a || eqb a₀ a && ltb b₀ b)) where
      pub order-refused : rises ≡ false → record { number = 8; place = k + 1 } ≡ pair_test records p k
      unfolding pair_test ◌then◌
      order-refused wrong = simp (← first₀, ← second₀, ← first, ← second, ← pair, right, lt-ltb 0 k (omega arith), ← order, wrong)

      pub pair-passed : rises ≡ true → accepted ≡ pair_test records p k
      unfolding pair_test ◌then◌
      pair-passed fine = simp (← first₀, ← second₀, ← first, ← second, ← pair, right, lt-ltb 0 k (omega arith), ← order, fine)
