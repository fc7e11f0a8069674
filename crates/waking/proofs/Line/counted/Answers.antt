-- `waking::Line::counted` meets its contract: words and number are put whole, or not at all.
use Rattle.lines.proofs.Fitting.{put_whole}
use Rattle.waking.proofs.Line.counted.Goals as goal

pub returns-clause-said : goal.returns-clause-said
returns-clause-said c = put_whole c.put_counted-self.ensures
