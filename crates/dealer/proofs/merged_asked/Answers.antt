-- `dealer::merged_asked` meets its contract: a refusal has its line, and the three sentences are said whole, since they have room.
use Rattle.lines.proofs.OwnLine.{said-whole}
use Rattle.dealer.specs.Sentences.{merged_sentences, merged_text}
use Rattle.dealer.proofs.Spoken.{merged-most, refused-told, answer-told}
use Rattle.dealer.proofs.merged_asked.Goals as goal

pub returns-then-told-ne0 : goal.returns-then-told-ne0
unfolding merged_text
returns-then-told-ne0 c =
    let told = c.args.told in
    let line = refused-told told.outcome (merged_sentences told c.args.ms) c.if-told-ne0.true in
    record { part = c.refused.ensures.part; answer = rw line c.refused.ensures.answer; buffer = rw line c.refused.ensures.buffer }

pub returns : goal.returns
unfolding merged_text
returns c =
    let told = c.args.told in
    let line = answer-told told.outcome (merged_sentences told c.args.ms) c.if-told-ne0.false in
    let all = said-whole (merged-most _ _) c.new-answer.ensures c.say_merged.ensures c.said.ensures in
    record { part = all.part; answer = rw line all.answer; buffer = rw line all.buffer }
