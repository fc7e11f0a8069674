-- `draw::put_edge` meets its contract: the parts of the line are put one behind the other, or nothing is.
use Rattle.meaning.specs.Lister.{text}
use Rattle.lines.proofs.Fitting.{put_whole, put-nothing, put-behind}
use Rattle.graph.specs.Drawing.{edge_line}
use Rattle.draw.proofs.put_edge.Goals as goal

pub returns-then-not-is : goal.returns-then-not-is
returns-then-not-is c = rw c.if-not-is.true (put-nothing c.args.out.now c.args.at)

pub returns : goal.returns
unfolding text edge_line
returns c =
    rw c.if-not-is.false
    (put-behind (put-behind (put_whole c.put_counted-first.ensures) (put_whole c.put_counted-second.ensures)) (put_whole c.put_words.ensures))
