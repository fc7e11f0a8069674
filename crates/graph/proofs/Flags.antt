-- A flag that is counted: `u16::from` of it is 1 or 0. By whether it is up.
use Rattle.std.proofs.Common.{◌≡◌, refl, ◌≤◌, Bool, true, false, cond, arith}
use Rattle.std.specs.Int.{from_bool}

pub flag : (b : Bool) → (from_bool b ≡ cond b 1 0) × (from_bool b ≤ 1)
flag true = (refl, omega arith)
flag false = (refl, omega arith)
