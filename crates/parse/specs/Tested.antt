-- What a test answers, by the number of what is wrong; 0 is no fault.
use Rattle.std.specs.Prelude.{ℕ, Option, None, Some}
use Rattle.meaning.specs.declared.Fault.{Fault}
use Rattle.meaning.specs.Returned.{number_of}

abbrev pub number_told : Option Fault → ℕ
number_told None = 0
number_told (Some fault) = number_of fault
