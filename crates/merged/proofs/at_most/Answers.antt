-- `merged::at_most` meets its contract: a byte times a byte fits two.
use Prim.Native.Nat.{◌≤◌}
use native.Mathlib.Nat.{mul-le-mul}
use native.Mathlib.Omega.{arith}
use Rattle.merged.proofs.at_most.Goals as goal

pub overflow_mul-product : goal.overflow_mul-product
overflow_mul-product c =
    let few : c.args.colours ≤ 255 = omega arith in
    let many : c.args.depth ≤ 255 = omega arith in
    record { fits = omega (arith, mul-le-mul few many) }
