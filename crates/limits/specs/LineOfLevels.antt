-- The levels of a yard, one below the other: level l stands at place l + 1 of a line, the gateway at 1.
use Rattle.std.specs.Prelude.{List, ℕ, ◌+◌, ◌-◌}
use Rattle.meaning.specs.Yard.{branch_lag}
use Rattle.meaning.specs.Sheet.{probe_count, packets_of, level_of}
use Rattle.meaning.specs.Colour.{depth}
use Rattle.limits.specs.Sent.{inflow}

-- how far the first level may be behind: the lag of the line, in which the probes of a level count together
unfoldable pub line_lag : List ℕ → ℕ
line_lag s = branch_lag (depth s) (λ at. at - 1) (λ at. inflow (probe_count s) (λ v. level_of s v + 1) (packets_of s) at) 2
