-- `lines::refusal_line` meets its contract: the line is said whole, since it has room.
use Rattle.lines.proofs.OwnLine.{said-whole}
use Rattle.lines.proofs.PartsLong.{refusal-most}
use Rattle.lines.proofs.refusal_line.Goals as goal

pub returns : goal.returns
returns c =
    let line = said-whole (refusal-most _) c.new-text.ensures c.say_refusal.ensures c.said.ensures in
    record { answer = line.answer; buffer = line.buffer }
