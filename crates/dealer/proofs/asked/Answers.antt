-- `dealer::asked` meets its contract: a refusal has its line, and the four sentences are said whole, since they have room.
use Rattle.lines.proofs.OwnLine.{said-whole}
use Rattle.dealer.specs.Sentences.{sentences, asked_text}
use Rattle.dealer.proofs.Spoken.{sentences-most, refused-told, answer-told}
use Rattle.dealer.proofs.asked.Goals as goal

pub returns-then-outcome-ne0 : goal.returns-then-outcome-ne0
unfolding asked_text
returns-then-outcome-ne0 c =
    let told = c.args.told in
    let line = refused-told told.outcome (sentences told c.args.ms) c.if-outcome-ne0.true in
    record { part = c.refused.ensures.part; answer = rw line c.refused.ensures.answer; buffer = rw line c.refused.ensures.buffer }

pub returns : goal.returns
unfolding asked_text
returns c =
    let told = c.args.told in
    let line = answer-told told.outcome (sentences told c.args.ms) c.if-outcome-ne0.false in
    let all = said-whole (sentences-most _ _) c.new-answer.ensures c.say_sentences.ensures c.said.ensures in
    record { part = all.part; answer = rw line all.answer; buffer = rw line all.buffer }
