-- `chosen::put_whole` meets its contract: where the bytes fit, they are copied to the start.
use mathlib.Core.Path.{sym, ap, ◌∙◌}
use mathlib.Core.List.{List, ◌++◌}
use Prim.Native.Nat.{ℕ}
use lib.ListN.{length, drop}
use Rattle.meaning.specs.Plan.{front}
use Rattle.chosen.proofs.Writing.{whole-fits, whole-short}
use Rattle.chosen.proofs.put_whole.Goals as goal

pub returns-then-rest-bytes-clause-answer : goal.returns-then-rest-bytes-clause-answer
returns-then-rest-bytes-clause-answer c =
    ap length (sym (whole-short c.args.rest.now c.args.bytes.now c.if-rest-bytes.true))

pub returns-then-rest-bytes-clause-rest : goal.returns-then-rest-bytes-clause-rest
returns-then-rest-bytes-clause-rest c =
    ap (front c.args.rest.now) (sym (whole-short c.args.rest.now c.args.bytes.now c.if-rest-bytes.true))

pub returns-clause-answer : goal.returns-clause-answer
returns-clause-answer c =
    ap length (sym (whole-fits c.args.rest.now c.args.bytes.now c.if-rest-bytes.false))

pub returns-clause-rest : goal.returns-clause-rest
returns-clause-rest c =
    ap (λ (l : List ℕ). l ++ drop (length c.args.bytes.now) c.args.rest.now) c.copy_from_slice.ensures.after
    ∙ ap (front c.args.rest.now) (sym (whole-fits c.args.rest.now c.args.bytes.now c.if-rest-bytes.false))
