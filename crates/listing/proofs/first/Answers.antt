-- `listing::first` meets its contract: the packets and the slots that are counted are those of the sheet.
use Rattle.listing.proofs.Heading.{the-tree, headed}
use Rattle.listing.proofs.first.Goals as goal

pub returns : goal.returns
returns c =
    let a = c.args in
    let tree = the-tree a.sheet.now c.read.result c.unwrap-tree.result c.unwrap-tree.ensures c.read.ensures in
    let all =
    headed a.sheet.now c.requires c.unwrap-tree.result tree a.colours a.slots _ _ _ a.out.now _ _
    c.all_packets-all.ensures c.heaviest-most.ensures c.least_slots-least.ensures c.numbers_line.ensures.answer c.numbers_line.ensures.buffer in
    record { answer = all.0; buffer = all.1 }
