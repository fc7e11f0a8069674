-- `lines::put_text` meets its contract. The invariant: the first i bytes are put.
use mathlib.Core.Path.{◌≡◌, refl, subst}
use Prim.Native.Nat.{ℕ, ◌+◌}
use native.Mathlib.Omega.{arith}
use lib.ListN.{length, length-set}
use Rattle.lines.specs.Line.{Put}
use Rattle.lines.proofs.Putting.{put-start, put_next, put_all}
use Rattle.lines.proofs.put_text.Goals as goal

pub loop-i-init : goal.loop-i-init
loop-i-init c = (refl, put-start _ c.args.bytes.now _)

pub loop-i-preserved : goal.loop-i-preserved
loop-i-preserved c =
    let turn = c.loop-i in
    (simp length-set turn.invariant.0, put_next _ _ _ _ turn.i (omega arith) turn.invariant.1)

pub returns : goal.returns
returns c =
    let done = c.loop-i in
    let all : done.i ≡ length c.args.bytes.now = omega arith in
    subst (λ (k : ℕ). Put c.args.out.now c.args.at c.args.bytes.now done.out (c.args.at + k)) all
    (put_all _ _ _ _ done.i _ (omega arith) done.invariant.1)
