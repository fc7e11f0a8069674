-- `draw::put_problem` meets its contract: the parts of the line are put one behind the other.
use Rattle.meaning.specs.Lister.{text}
use Rattle.lines.proofs.Fitting.{put_whole, put-behind}
use Rattle.graph.specs.Drawing.{problem_line}
use Rattle.draw.proofs.put_problem.Goals as goal

pub returns : goal.returns
unfolding text problem_line
returns c =
    put-behind (put-behind (put_whole c.put_counted-first.ensures) (put_whole c.put_counted-second.ensures)) (put_whole c.put_words.ensures)
