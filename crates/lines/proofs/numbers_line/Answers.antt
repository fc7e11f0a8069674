-- `lines::numbers_line` meets its contract: the line is said whole, since it has room.
use Rattle.lines.proofs.OwnLine.{said-whole}
use Rattle.lines.proofs.PartsLong.{numbers-most}
use Rattle.lines.proofs.numbers_line.Goals as goal

pub returns : goal.returns
returns c =
    let line = said-whole (numbers-most _ _ _ _ _) c.new-text.ensures c.say_numbers.ensures c.said.ensures in
    record { answer = line.answer; buffer = line.buffer }
