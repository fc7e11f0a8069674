-- `files::say_shown` meets its contract. The invariant: the bytes before this one are said as they are shown.
use mathlib.Core.Path.{◌≡◌, ap}
use mathlib.Core.List.{[], ◌∷◌, ◌++◌}
use Prim.Native.Nat.{ℕ, ◌+◌}
use native.Mathlib.Numerals.{add-one}
use native.Mathlib.Omega.{arith}
use lib.ListN.{get_or}
use Rattle.meaning.specs.Words.{tab}
use Rattle.lines.proofs.Saying.{say-more, say-nothing, say_same}
use Rattle.files.specs.Name.{plain_byte, flattened}
use Rattle.files.proofs.say_shown.Goals as goal

one-more : (i b : ℕ) (f : ℕ → ℕ) → b ≡ f i → tab i f ++ (b ∷ []) ≡ tab (i + 1) f
unfolding tab
one-more i b f is = rw (add-one i) (ap (λ (k : ℕ). tab i f ++ (k ∷ [])) is)

pub loop-byte-init : goal.loop-byte-init
unfolding tab
loop-byte-init c = say-nothing c.words.ensures

pub loop-byte-preserved : goal.loop-byte-preserved
loop-byte-preserved c =
    let turn = c.loop-byte in
    say_same (one-more turn.byte-index _ _ c.plain.ensures) (say-more turn.invariant c.words-in-loop-byte.ensures)

pub returns : goal.returns
unfolding flattened
returns c =
    let all = ap (λ (i : ℕ). tab i (λ k. plain_byte (get_or c.args.path.now k 0))) (omega arith) in
    say-more c.words.ensures (say_same all c.loop-byte.invariant)
