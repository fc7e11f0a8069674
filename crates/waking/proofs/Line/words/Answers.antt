-- `waking::Line::words` meets its contract: the bytes are put whole, or not at all.
use Rattle.lines.proofs.Fitting.{put_whole}
use Rattle.waking.proofs.Line.words.Goals as goal

pub returns-clause-said : goal.returns-clause-said
returns-clause-said c = put_whole c.put_words-self.ensures
