-- `wording::chosen` meets its contract: the answer is said whole, since any has room.
use Rattle.lines.proofs.OwnLine.{said-whole}
use Rattle.wording.proofs.AnswersLong.{chosen-most}
use Rattle.wording.proofs.chosen.Goals as goal

pub returns : goal.returns
returns c =
    let all = said-whole (chosen-most _ _ _) c.new-answer.ensures c.say_chosen.ensures c.said.ensures in
    record { part = all.part; answer = all.answer; buffer = all.buffer }
