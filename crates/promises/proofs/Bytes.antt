-- What a `&[u8]` has are bytes: each number of such a list is below 256, and so is 0, which is read past its end.
use mathlib.Core.Path.{◌≡◌, ap₂}
use mathlib.Core.List.{List, [], ◌∷◌}
use Prim.Native.Nat.{ℕ, zero, suc, ◌<◌}
use native.Mathlib.Omega.{arith}
use lib.ListN.{get_or, take}
use Rattle.meaning.specs.declared.Mode.TheVariants.{Packets}
use Rattle.meaning.specs.Words.{Bytes}
use Rattle.meaning.specs.Sheet.{deciding_sheet}
use Rattle.meaning.specs.Plan.{deciding_plan}
use Rattle.meaning.specs.Judge.{judge, judgement, choose_by, choice}
use Rattle.meaning.specs.Legal.{Good}
use Rattle.laws.proofs.Exact.{passed-good}
use Rattle.limits.proofs.Deciding.{verdict-decided}
use Rattle.limits.proofs.DecidingPlan.{plan-decided, plan-judgement-decided}
use Rattle.promises.specs.Answers.{Passes, Byte, numbers}

pub bytes_below : (bytes : List Byte) (k : ℕ) → get_or (numbers bytes) k 0 < 256
unfolding numbers
bytes_below [] k = omega arith
bytes_below (byte ∷ bytes) zero = byte.below
bytes_below (byte ∷ bytes) (suc k) = bytes_below bytes k

module _ (s : Bytes) (plan : List Byte) where
  pub bytes_good : Passes s (numbers plan) → Good s (numbers plan)
  bytes_good = passed-good Packets s (numbers plan) (bytes_below plan 0) (bytes_below plan 1)

  pub plan-bytes-decide : judge s (take deciding_plan (numbers plan)) ≡ judge s (numbers plan)
  plan-bytes-decide = plan-decided s (numbers plan) (bytes_below plan)

  pub plan-bytes-decide-judgement : judgement s (take deciding_plan (numbers plan)) ≡ judgement s (numbers plan)
  plan-bytes-decide-judgement = plan-judgement-decided s (numbers plan) (bytes_below plan)

pub choice-decided : (s a b : Bytes) → choice (take deciding_sheet s) a b ≡ choice s a b
unfolding choice
choice-decided s a b = ap₂ choose_by (verdict-decided Packets s a) (verdict-decided Packets s b)
