-- RULES, "Numbers of the yard": probes, levels, hops; and, for demand 3, the packets and the lag of a branch and the fewest slots of any plan.
use Rattle.std.specs.Prelude.{Option, Some, None, Bool, cond, ◌&&◌, ◌||◌, ℕ, zero, suc, ◌+◌, ◌-◌, ◌*◌, max, eqb, leb}
use Rattle.meaning.specs.declared.Level.{Level}
use Rattle.meaning.specs.Words.{Node, sum_probes, most_probes}

-- "Numbers of the yard": node 1 is the gateway, the probes are 2 to n, and n = p + 1
abbrev pub is_probe : (p : ℕ) → Node → Bool
is_probe p v = leb 2 v && leb v (p + 1)

-- "Numbers of the yard": walking from parent to parent, v comes to the node top, in at most `left` hops
unfoldable pub reaches : (parent : Node → Node) → (top : Node) → (left : ℕ) → Node → Bool
reaches parent top zero v = eqb v top
reaches parent top (suc left) v = eqb v top || reaches parent top left (parent v)

-- "Numbers of the yard": the hops that this walk takes to the gateway, where at most `left` are walked
unfoldable pub climb : (parent : Node → Node) → (left : ℕ) → Node → ℕ
climb parent zero v = 0
climb parent (suc left) v = cond (eqb v 1) 0 (suc (climb parent left (parent v)))

-- "Numbers of the yard": where this walk ends: it arrives with its level, or has not arrived when no hops are left
unfoldable pub climbed : (parent : Node → Node) → (left : ℕ) → Node → Option Level
climbed parent left v = cond (reaches parent 1 left v) (Some (record { 0 = climb parent left v })) None

-- "Numbers of the yard": the level of a probe; a walk that arrives has at most p hops
abbrev pub level_by : (p : ℕ) → (parent : Node → Node) → Node → ℕ
level_by p parent v = cond (is_probe p v) (climb parent p v) 0

-- "Numbers of the yard": hops, the sum over all probes of packets times level
abbrev pub hops_of : (p : ℕ) → (packets level : Node → ℕ) → ℕ
hops_of p packets level = sum_probes p (λ v. packets v * level v)

-- Demand 3: the packets of a branch, which is its top probe and every probe below it
abbrev pub branch_packets : (p : ℕ) → (parent : Node → Node) → (packets : Node → ℕ) → (top : Node) → ℕ
branch_packets p parent packets top = sum_probes p (λ v. cond (reaches parent top p v) (packets v) 0)

-- "The lister": the packets of the heaviest branch, 0 with no probes
abbrev pub heaviest_of : (p : ℕ) → (parent : Node → Node) → (packets : Node → ℕ) → ℕ
heaviest_of p parent packets = most_probes p (branch_packets p parent packets)

-- Demand 3: the levels below the top of a branch
abbrev pub levels_below : (p : ℕ) → (parent : Node → Node) → (top : Node) → ℕ
levels_below p parent top = most_probes p (λ v. cond (reaches parent top p v) (climb parent p v - climb parent p top) 0)

-- Demand 3: the largest, over branches, of packets plus the levels below its top, 0 with no probes
abbrev pub longest_of : (p : ℕ) → (parent : Node → Node) → (packets : Node → ℕ) → ℕ
longest_of p parent packets = most_probes p (λ top. branch_packets p parent packets top + levels_below p parent top)

-- Demand 3: the lag of a walk when it comes to the node top: each hop adds one, each packet of the node that it comes to takes one away, never below 0
unfoldable pub lag_on : (parent : Node → Node) → (packets : Node → ℕ) → (top : Node) → (left lag : ℕ) → Node → ℕ
lag_on parent packets top zero lag v = lag
lag_on parent packets top (suc left) lag v = cond (eqb v top) lag (lag_on parent packets top left (lag + 1 - packets (parent v)) (parent v))

-- Demand 3: the lag of a branch: the largest of the walks from its probes to its top
abbrev pub branch_lag : (p : ℕ) → (parent : Node → Node) → (packets : Node → ℕ) → (top : Node) → ℕ
branch_lag p parent packets top = most_probes p (λ v. cond (reaches parent top p v) (lag_on parent packets top p 0 v) 0)

-- Demand 3: the packets and the lag of the slowest branch, 0 with no probes
abbrev pub slowest_of : (p : ℕ) → (parent : Node → Node) → (packets : Node → ℕ) → ℕ
slowest_of p parent packets = most_probes p (λ top. branch_packets p parent packets top + branch_lag p parent packets top)

-- Demand 3: a probe hears every packet from below once and sends every packet of its branch once, in slots of their own: twice the packets of its branch less its own
abbrev pub hears_and_sends : (p : ℕ) → (parent : Node → Node) → (packets : Node → ℕ) → (top : Node) → ℕ
hears_and_sends p parent packets top = 2 * branch_packets p parent packets top - packets top

-- Demand 3: the fewest slots of any plan: the larger of all packets, which the gateway hears, and of the most that a probe hears and sends; 0 with no probes
abbrev pub least_slots_of : (p : ℕ) → (parent : Node → Node) → (packets : Node → ℕ) → ℕ
least_slots_of p parent packets = max (sum_probes p packets) (most_probes p (hears_and_sends p parent packets))
