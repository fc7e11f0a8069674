-- RULES, "Numbers returned": what is answered, number and place first, as the table has it.
use Rattle.std.specs.Prelude.{ℕ}
use Rattle.meaning.specs.declared.Fault.{Fault}
use Rattle.meaning.specs.declared.Fault.TheVariants.{SheetShort, CountTooLarge, SheetLong, ParentWrong, TooManyPackets, NeverArrives, PairWrong, PairNotAbove, PlanRoom, TooManySlots, PlanShort, NoProbe, NotAbove, NoPacket, Conflict, PlanLong, PacketsLeft, LineAstray, VertexWrong, EdgeCount, TextRoom, BookRoom}
use Rattle.meaning.specs.declared.Names.{Names}
use Rattle.meaning.specs.declared.Outcome.{Outcome}

-- "Numbers returned": the numbers of the table
abbrev pub number_of : Fault → ℕ
number_of SheetShort = 1
number_of CountTooLarge = 2
number_of SheetLong = 3
number_of ParentWrong = 4
number_of TooManyPackets = 5
number_of NeverArrives = 6
number_of PairWrong = 7
number_of PairNotAbove = 8
number_of PlanRoom = 9
number_of TooManySlots = 10
number_of PlanShort = 11
number_of NoProbe = 12
number_of NotAbove = 13
number_of NoPacket = 14
number_of Conflict = 15
number_of PlanLong = 16
number_of PacketsLeft = 17
number_of LineAstray = 18
number_of VertexWrong = 19
number_of EdgeCount = 20
number_of TextRoom = 21
number_of BookRoom = 22

-- "Whom a refusal names": what the test of a slot, or of a plan's slots, answers
pub record Tested : Type 0 where
  pub outcome : Outcome
  pub names : Names

-- "The wake book": what the maker of wake books answers; the bytes are 0 on refusal
pub record Booked : Type 0 where
  pub outcome : Outcome
  pub names : Names
  pub bytes : ℕ
