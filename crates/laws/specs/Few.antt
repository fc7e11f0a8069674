-- RULES, "Numbers of the yard": a yard has at most 63 probes.
use Rattle.std.specs.Prelude.{ℕ, min}

-- as many probes as a yard may have: a larger number counts as 63
abbrev pub at_most63 : ℕ → ℕ
at_most63 p = min p 63
