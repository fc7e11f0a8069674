-- `wording::verdict` meets its contract: the answer is said whole, since any has room.
use Rattle.lines.proofs.OwnLine.{said-whole}
use Rattle.wording.proofs.AnswersLong.{verdict-most}
use Rattle.wording.proofs.verdict.Goals as goal

pub returns : goal.returns
returns c =
    let all = said-whole (verdict-most _ _) c.new-answer.ensures c.say_verdict.ensures c.said.ensures in
    record { part = all.part; answer = all.answer; buffer = all.buffer }
