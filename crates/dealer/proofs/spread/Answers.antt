-- `dealer::spread` meets its contract: what is said is said whole, since it has room.
use Rattle.lines.proofs.OwnLine.{said-whole}
use Rattle.dealer.proofs.Spoken.{spread-most}
use Rattle.dealer.proofs.spread.Goals as goal

pub returns : goal.returns
returns c =
    let all = said-whole (spread-most _ _) c.new-answer.ensures c.say_spread.ensures c.said.ensures in
    record { part = all.part; answer = all.answer; buffer = all.buffer }
