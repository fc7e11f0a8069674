-- `telephone::at_most` meets its contract: a byte times two bytes fits four.
use Prim.Native.Nat.{◌≤◌}
use native.Mathlib.Nat.{mul-le-mul}
use native.Mathlib.Omega.{arith}
use Rattle.telephone.proofs.at_most.Goals as goal

pub overflow_mul-product : goal.overflow_mul-product
overflow_mul-product c =
    let few : c.args.colours ≤ 255 = omega arith in
    let many : c.args.slowest ≤ 65535 = omega arith in
    record { fits = omega (arith, mul-le-mul few many) }
