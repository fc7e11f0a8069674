-- `parse::clear` meets its contract: the table written is that of no relation.
use mathlib.Core.Path.{refl}
use mathlib.Core.Bool.{false}
use Rattle.meaning.specs.Words.{places}
use Rattle.conflict.proofs.Tables.{no-marks}
use Rattle.graph.specs.Table.{no_edges}
use Rattle.parse.proofs.clear.Goals as goal

pub returns : goal.returns
unfolding no_edges
returns c =
    no-marks places (λ _ _. false) (λ _ _. refl)
