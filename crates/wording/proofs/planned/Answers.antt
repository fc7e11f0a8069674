-- `wording::planned` meets its contract: the answer is said whole, since any has room.
use Rattle.lines.proofs.OwnLine.{said-whole}
use Rattle.wording.proofs.AnswersLong.{planned-most}
use Rattle.wording.proofs.planned.Goals as goal

pub returns : goal.returns
returns c =
    let all = said-whole (planned-most _) c.new-answer.ensures c.say_planned.ensures c.said.ensures in
    record { part = all.part; answer = all.answer; buffer = all.buffer }
