-- `lines::said` meets its contract: the text is copied as a whole, or not at all.
use mathlib.Core.Path.{subst}
use mathlib.Core.List.{List}
use Prim.Native.Nat.{ℕ}
use Rattle.lines.specs.Line.{fitting, Put}
use Rattle.lines.proofs.OwnLine.{copied}
use Rattle.lines.proofs.said.Goals as goal

pub returns : goal.returns
returns c =
    let put = subst (λ (b : List ℕ). Put c.args.out.now 0 (fitting c.args.out.now 0 b) c.put_words.new.out c.put_words.result) c.as_slice.ensures c.put_words.ensures in
    let all = copied c.args.text.now put in
    record { part = all.0; answer = all.1.0; buffer = all.1.1 }
