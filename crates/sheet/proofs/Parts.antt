-- The rest of a sheet, and the numbers and lists that are read of it, as the code comes by them.
use mathlib.Core.Path.{◌≡◌, sym, ap, ap₂, ◌∙◌}
use mathlib.Core.List.{List}
use Prim.Native.Nat.{ℕ, ◌+◌, ◌-◌, ◌*◌, ◌≤◌, ◌<◌}
use native.Mathlib.Omega.{arith}
use lib.ListN.{length, get_or, take, drop, length-drop, drop_of_length-le}
use lib.Seq.{take_all, drop-length}
use Rattle.meaning.specs.Sheet.{pair_count_at, pair_count}
use Rattle.laws.proofs.Walk.{probe-yes, probe-below, probe-past}
use Rattle.sheet.specs.Tree.{record_byte}

pub rest-within : (s : List ℕ) (at : ℕ) → take (length s - at) (drop at s) ≡ drop at s
rest-within s at = take_all (length s - at) (drop at s) (omega (arith, length-drop at s))

-- past the end nothing is left, as at the end
pub rest-past : (s : List ℕ) (at : ℕ) → length s ≤ at → take (length s - length s) (drop (length s) s) ≡ drop at s
rest-past s at h = rest-within s (length s) ∙ drop-length s ∙ sym (drop_of_length-le s h)

pub pair-count-read : (s : List ℕ) (at high low : ℕ) → at ≡ pair_count_at s → high ≡ get_or s at 0 → low ≡ get_or s (at + 1) 0 → 256 * high + low ≡ pair_count s
pair-count-read s at high low e h l =
    ap₂ (λ (x y : ℕ). 256 * x + y) (h ∙ ap (λ (i : ℕ). get_or s i 0) e) (l ∙ ap (λ (i : ℕ). get_or s (i + 1) 0) e)

-- a node below the probes, a node above them, and a probe
module _ (records : List ℕ) (p side v : ℕ) where
  pub node-below : v < 2 → 0 ≡ record_byte records p side v
  unfolding record_byte
  node-below h = simp (probe-below p v h)

  pub node-above : p + 1 < v → 0 ≡ record_byte records p side v
  unfolding record_byte
  node-above h = simp (probe-past p v h)

  pub node-probe : 2 ≤ v → v ≤ p + 1 → (b : ℕ) → b ≡ get_or records (2 * (v - 2) + side) 0 → b ≡ record_byte records p side v
  unfolding record_byte
  node-probe l h b e = simp (probe-yes p v l h, e)
