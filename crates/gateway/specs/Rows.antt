-- RULES, "A graph as text": a table as C sees it, one word a row.
use Rattle.std.specs.Prelude.{Bool, cond, List, ℕ, ◌+◌, ◌^◌}
use Rattle.meaning.specs.Words.{sum, tab}
use Rattle.meaning.specs.Conflict.{entry}

-- a word whose bit k is set just where flag k is up
unfoldable pub word : (flag : ℕ → Bool) → ℕ
word flag = sum 64 (λ k. cond (flag k) (2 ^ k) 0)

-- "A graph as text": the rows of the nodes 1 to 64, with bit k for node k + 1
unfoldable pub row_words : (table : List (List Bool)) → List ℕ
row_words table = tab 64 (λ j. word (λ k. entry table (j + 1) (k + 1)))
