-- `wording::written` meets its contract: the answer is said whole, since any has room.
use Rattle.lines.proofs.OwnLine.{said-whole}
use Rattle.wording.proofs.AnswersLong.{written-most}
use Rattle.wording.proofs.written.Goals as goal

pub returns : goal.returns
returns c =
    let all = said-whole (written-most _ _) c.new-answer.ensures c.say_written.ensures c.said.ensures in
    record { part = all.part; answer = all.answer; buffer = all.buffer }
