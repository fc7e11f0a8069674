-- `wording::refused` meets its contract: the answer is said whole, since any has room.
use Rattle.lines.proofs.OwnLine.{said-whole}
use Rattle.wording.proofs.AnswersLong.{refused-most}
use Rattle.wording.proofs.refused.Goals as goal

pub returns : goal.returns
returns c =
    let all = said-whole (refused-most _) c.new-answer.ensures c.say_refused.ensures c.said.ensures in
    record { part = all.part; answer = all.answer; buffer = all.buffer }
