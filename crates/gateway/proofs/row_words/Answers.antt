-- `gateway::row_words` meets its contract: each call makes the word of a row.
use Rattle.std.proofs.Common.{◌+◌, rules}
use Rattle.laws.proofs.Made.{made_tab}
use Rattle.meaning.specs.Conflict.{entry}
use Rattle.gateway.specs.Rows.{word, row_words}
use Rattle.gateway.proofs.row_words.Goals as goal

pub returns : goal.returns
unfolding row_words
returns c =
    made_tab _ _ 64 (λ j. word (λ k. entry c.args.table.now (j + 1) (k + 1))) (λ i y after low k. search rules) 0 _ c.from_fn.ensures.items
