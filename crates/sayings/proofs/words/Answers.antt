-- `sayings::words` meets its contract: the words of each arm are those of its number.
use mathlib.Core.Path.{sym, ap}
use native.Mathlib.Omega.{arith}
use Rattle.meaning.specs.Lister.{text}
use Rattle.sayings.specs.Saying.{unknown, sayings, saying}
use Rattle.sayings.proofs.Unsaid.{says-unknown}
use Rattle.sayings.proofs.words.Goals as goal

pub returns-in-1 : goal.returns-in-1
unfolding text sayings saying
returns-in-1 c = ap saying (sym c.in-1.is)

pub returns-in-2 : goal.returns-in-2
unfolding text sayings saying
returns-in-2 c = ap saying (sym c.in-2.is)

pub returns-in-3 : goal.returns-in-3
unfolding text sayings saying
returns-in-3 c = ap saying (sym c.in-3.is)

pub returns-in-4 : goal.returns-in-4
unfolding text sayings saying
returns-in-4 c = ap saying (sym c.in-4.is)

pub returns-in-5 : goal.returns-in-5
unfolding text sayings saying
returns-in-5 c = ap saying (sym c.in-5.is)

pub returns-in-6 : goal.returns-in-6
unfolding text sayings saying
returns-in-6 c = ap saying (sym c.in-6.is)

pub returns-in-7 : goal.returns-in-7
unfolding text sayings saying
returns-in-7 c = ap saying (sym c.in-7.is)

pub returns-in-8 : goal.returns-in-8
unfolding text sayings saying
returns-in-8 c = ap saying (sym c.in-8.is)

pub returns-in-9 : goal.returns-in-9
unfolding text sayings saying
returns-in-9 c = ap saying (sym c.in-9.is)

pub returns-in-10 : goal.returns-in-10
unfolding text sayings saying
returns-in-10 c = ap saying (sym c.in-10.is)

pub returns-in-11 : goal.returns-in-11
unfolding text sayings saying
returns-in-11 c = ap saying (sym c.in-11.is)

pub returns-in-12 : goal.returns-in-12
unfolding text sayings saying
returns-in-12 c = ap saying (sym c.in-12.is)

pub returns-in-13 : goal.returns-in-13
unfolding text sayings saying
returns-in-13 c = ap saying (sym c.in-13.is)

pub returns-in-14 : goal.returns-in-14
unfolding text sayings saying
returns-in-14 c = ap saying (sym c.in-14.is)

pub returns-in-15 : goal.returns-in-15
unfolding text sayings saying
returns-in-15 c = ap saying (sym c.in-15.is)

pub returns-in-16 : goal.returns-in-16
unfolding text sayings saying
returns-in-16 c = ap saying (sym c.in-16.is)

pub returns-in-17 : goal.returns-in-17
unfolding text sayings saying
returns-in-17 c = ap saying (sym c.in-17.is)

pub returns-in-18 : goal.returns-in-18
unfolding text sayings saying
returns-in-18 c = ap saying (sym c.in-18.is)

pub returns-in-19 : goal.returns-in-19
unfolding text sayings saying
returns-in-19 c = ap saying (sym c.in-19.is)

pub returns-in-20 : goal.returns-in-20
unfolding text sayings saying
returns-in-20 c = ap saying (sym c.in-20.is)

pub returns-in-21 : goal.returns-in-21
unfolding text sayings saying
returns-in-21 c = ap saying (sym c.in-21.is)

pub returns-in-22 : goal.returns-in-22
unfolding text sayings saying
returns-in-22 c = ap saying (sym c.in-22.is)

pub returns-in_default : goal.returns-in_default
unfolding text unknown
returns-in_default c = says-unknown c.args.number (λ some. omega arith)
