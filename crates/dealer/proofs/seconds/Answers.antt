-- `dealer::seconds` meets its contract: at most 65,535 slots of at most 60,000 ms fit into 32 bits.
use mathlib.Core.Path.{◌≡◌, ap}
use Prim.Native.Nat.{ℕ, ◌+◌, ◌*◌, ◌/◌, ◌≤◌, min}
use native.Mathlib.Nat.{mul-le-mul}
use native.Mathlib.Omega.{arith}
use Rattle.dealer.specs.SlotLength.{longest_slot, seconds_of}
use Rattle.dealer.proofs.seconds.Goals as goal

-- so many milliseconds at most
product : (slots slot ms : ℕ) → slots ≤ 65535 → slot ≡ min ms longest_slot → slots * slot ≤ 65535 * 60000
product slots slot ms few is = let short : slot ≤ 60000 = omega (arith, is) in mul-le-mul few short

pub overflow_mul-result : goal.overflow_mul-result
overflow_mul-result c = record { fits = omega (arith, product c.args.slots _ _ (omega arith) c.min-slot.ensures) }

pub overflow_add-result : goal.overflow_add-result
overflow_add-result c = record { fits = omega (arith, product c.args.slots _ _ (omega arith) c.min-slot.ensures) }

pub returns : goal.returns
unfolding seconds_of
returns c =
    record {
      count = ap (λ (slot : ℕ). (c.args.slots * slot + c.args.rounding) / 1000) c.min-slot.ensures;
      few = omega (arith, product c.args.slots _ _ (omega arith) c.min-slot.ensures);
    }
