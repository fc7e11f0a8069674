-- `grammar::says` meets its contract: the word is found, and then compared.
use Rattle.std.proofs.Common.{◌∙◌, ap, List, ℕ}
use Rattle.graph.specs.Lines.{same}
use Rattle.grammar.proofs.Words.{same-pointwise}
use Rattle.grammar.proofs.says.Goals as goal

pub returns : goal.returns
returns c = c.eq.ensures ∙ same-pointwise c.word.result.now c.args.bytes.now ∙ ap (λ (w : List ℕ). same w c.args.bytes.now) c.word.ensures
