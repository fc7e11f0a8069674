-- A refusal is never accepted: no fault of the table has number 0, fault by fault.
use mathlib.Core.Path.{◌≡◌, refl, sym, ap, ◌∙◌}
use borrow.Author.Tests.{eq-eqb}
use mathlib.Core.Bool.{true, false, true≢false}
use lib.Dec.{eqb}
use Rattle.meaning.specs.declared.Fault.{Fault}
use Rattle.meaning.specs.declared.Fault.TheVariants.{SheetShort, CountTooLarge, SheetLong, ParentWrong, TooManyPackets, NeverArrives, PairWrong, PairNotAbove, PlanRoom, TooManySlots, PlanShort, NoProbe, NotAbove, NoPacket, Conflict, PlanLong, PacketsLeft, LineAstray, VertexWrong, EdgeCount, TextRoom, BookRoom}
use Rattle.meaning.specs.declared.Refusal.{Refusal}
use Rattle.meaning.specs.Answer.{accepted, is_accepted}
use Rattle.meaning.specs.declared.Outcome.{Outcome}
use Rattle.meaning.specs.Returned.{number_of}
use Rattle.meaning.specs.Results.{outcome_of}

never-0 : (fault : Fault) → eqb (number_of fault) 0 ≡ false
never-0 SheetShort = refl
never-0 CountTooLarge = refl
never-0 SheetLong = refl
never-0 ParentWrong = refl
never-0 TooManyPackets = refl
never-0 NeverArrives = refl
never-0 PairWrong = refl
never-0 PairNotAbove = refl
never-0 PlanRoom = refl
never-0 TooManySlots = refl
never-0 PlanShort = refl
never-0 NoProbe = refl
never-0 NotAbove = refl
never-0 NoPacket = refl
never-0 Conflict = refl
never-0 PlanLong = refl
never-0 PacketsLeft = refl
never-0 LineAstray = refl
never-0 VertexWrong = refl
never-0 EdgeCount = refl
never-0 TextRoom = refl
never-0 BookRoom = refl

pub refused : (refusal : Refusal) → is_accepted (outcome_of refusal) ≡ false
refused refusal = never-0 refusal.fault

pub some-number : (refusal : Refusal) → (outcome_of refusal).number ≡ 0 → ⊥
some-number refusal none = absurd (true≢false (sym (eq-eqb _ 0 none) ∙ refused refusal))

pub not-refused : (refusal : Refusal) {outcome : Outcome} → outcome_of refusal ≡ outcome → is_accepted outcome ≡ true → ⊥
not-refused refusal is passed = true≢false (sym passed ∙ ap (λ (o : Outcome). is_accepted o) (sym is) ∙ refused refusal)

pub passed : {outcome : Outcome} → accepted ≡ outcome → is_accepted outcome ≡ true
passed is = ap (λ (o : Outcome). is_accepted o) (sym is)
