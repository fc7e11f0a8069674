-- `wording::misread` meets its contract: the answer is said whole, since any has room.
use Rattle.lines.proofs.OwnLine.{said-whole}
use Rattle.wording.proofs.AnswersLong.{misread-most}
use Rattle.wording.proofs.misread.Goals as goal

pub returns : goal.returns
returns c =
    let all = said-whole (misread-most _ _) c.new-answer.ensures c.say_misread.ensures c.said.ensures in
    record { part = all.part; answer = all.answer; buffer = all.buffer }
