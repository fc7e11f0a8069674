-- RULES, "The yard sheet in bytes": what stands where in a sheet s. Outside the yard every number is 0.
use Rattle.std.specs.Prelude.{Bool, cond, ◌&&◌, ◌||◌, ℕ, ◌+◌, ◌-◌, ◌*◌, eqb, get_or, drop}
use Rattle.meaning.specs.Words.{Bytes, Node, Relation, some, sum_probes}
use Rattle.meaning.specs.Yard.{is_probe, level_by, hops_of, heaviest_of, longest_of, slowest_of, least_slots_of}

-- a number of two bytes at a place, high byte first
abbrev pub two_at : Bytes → (at : ℕ) → ℕ
two_at s at = 256 * get_or s at 0 + get_or s (at + 1) 0

-- the two bytes of record k, from 0, in a section behind its count
abbrev pub first_of : (section : Bytes) → (k : ℕ) → ℕ
first_of section k = get_or section (2 * k) 0

abbrev pub second_of : (section : Bytes) → (k : ℕ) → ℕ
second_of section k = get_or section (2 * k + 1) 0

-- "The yard sheet in bytes": one byte p, the number of probes
abbrev pub probe_count : Bytes → ℕ
probe_count s = get_or s 0 0

-- "The yard sheet in bytes": then p records for probes 2, 3, .. n, read from the rest of the sheet behind p
abbrev pub probe_records : Bytes → Bytes
probe_records s = drop 1 s

-- "The yard sheet in bytes": where the two bytes q stand
abbrev pub pair_count_at : Bytes → ℕ
pair_count_at s = 2 * probe_count s + 1

-- "The yard sheet in bytes": two bytes q, the number of interfering pairs
abbrev pub pair_count : Bytes → ℕ
pair_count s = two_at s (pair_count_at s)

-- "The yard sheet in bytes": then q records a, b, read from the rest of the sheet behind q
abbrev pub pair_records : Bytes → Bytes
pair_records s = drop (pair_count_at s + 2) s

-- "The yard sheet in bytes": how long a sheet with these counts is
abbrev pub sheet_length : Bytes → ℕ
sheet_length s = pair_count_at s + 2 + 2 * pair_count s

-- "The lister": so many bytes of a sheet decide every answer, one more than the longest has
abbrev pub deciding_sheet : ℕ
deciding_sheet = 4162

-- "Numbers of the yard": each probe has a parent and packets
unfoldable pub parent_of : Bytes → Node → Node
parent_of s v = cond (is_probe (probe_count s) v) (first_of (probe_records s) (v - 2)) 0

unfoldable pub packets_of : Bytes → Node → ℕ
packets_of s v = cond (is_probe (probe_count s) v) (second_of (probe_records s) (v - 2)) 0

-- "Numbers of the yard": the level of a probe
unfoldable pub level_of : Bytes → Node → ℕ
level_of s v = level_by (probe_count s) (parent_of s) v

-- "Numbers of the yard": the hops of a sheet; and, for the lister, all its packets and its heaviest branch
unfoldable pub hops : Bytes → ℕ
hops s = hops_of (probe_count s) (packets_of s) (level_of s)

unfoldable pub all_packets : Bytes → ℕ
all_packets s = sum_probes (probe_count s) (packets_of s)

unfoldable pub heaviest : Bytes → ℕ
heaviest s = heaviest_of (probe_count s) (parent_of s) (packets_of s)

-- Demand 3: its longest branch, and its slowest
unfoldable pub longest : Bytes → ℕ
longest s = longest_of (probe_count s) (parent_of s) (packets_of s)

unfoldable pub slowest : Bytes → ℕ
slowest s = slowest_of (probe_count s) (parent_of s) (packets_of s)

-- Demand 3: the fewest slots of any plan for it
unfoldable pub least_slots : Bytes → ℕ
least_slots s = least_slots_of (probe_count s) (parent_of s) (packets_of s)

-- "The yard sheet in bytes": x and y stand in one of the first q records, either way round
unfoldable pub interfere : (records : Bytes) → (q : ℕ) → Relation
interfere records q x y = some q (λ k. is x y k || is y x k)
  where
    is : ℕ → ℕ → ℕ → Bool
    is a b k = eqb (first_of records k) a && eqb (second_of records k) b
