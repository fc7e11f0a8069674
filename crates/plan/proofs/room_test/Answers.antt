-- `plan::room_test` meets its contract: the room is short or it is not.
use Rattle.plan.proofs.Preparing.{room-short, room-enough}
use Rattle.plan.proofs.room_test.Goals as goal

pub returns-then-room-sendings : goal.returns-then-room-sendings
returns-then-room-sendings c = room-short c.args.room c.args.sendings c.if-room-sendings.true

pub returns : goal.returns
returns c = room-enough c.args.room c.args.sendings c.if-room-sendings.false
