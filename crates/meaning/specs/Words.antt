-- The words in which the definitions are told: doing something in turn, and some, the first, the sum, the most, the list and the bytes of what is below a number.
use Rattle.std.specs.Prelude.{Bool, false, cond, not, ◌||◌, List, [], ◌∷◌, ◌++◌, ℕ, zero, suc, ◌+◌, max, get_or}

-- the bytes of a sheet, a plan or a text
abbrev pub Bytes : Type 0
Bytes = List ℕ

-- a node's number: the gateway's or a probe's
abbrev pub Node : Type 0
Node = ℕ

-- the senders of each slot
abbrev pub Slots : Type 0
Slots = List (List Node)

-- which two conflict
abbrev pub Relation : Type 0
Relation = Node → Node → Bool

-- step 0, then step 1, .. up to step (n - 1), from start
unfoldable pub for_each : {A : Type 0} → ℕ → (ℕ → A → A) → A → A
for_each zero step start = start
for_each (suc k) step start = step k (for_each k step start)

-- a step while it is still busy, at most n of them
abbrev pub while_busy : {A : Type 0} → (busy : A → Bool) → (step : A → A) → ℕ → A → A
while_busy busy step n start = for_each n (λ _ now. cond (busy now) (step now) now) start

-- some number below n passes the test
unfoldable pub some : ℕ → (ℕ → Bool) → Bool
some zero test = false
some (suc k) test = some k test || test k

-- the first number that passes the test, looked for below n; n where none does
unfoldable pub least : ℕ → (ℕ → Bool) → ℕ
least n test = while_busy (λ k. not (test k)) suc n 0

-- f 0 + f 1 + .. + f (n - 1)
unfoldable pub sum : ℕ → (ℕ → ℕ) → ℕ
sum zero f = 0
sum (suc k) f = sum k f + f k

-- how many numbers below n pass the test
abbrev pub count : ℕ → (ℕ → Bool) → ℕ
count n test = sum n (λ k. cond (test k) 1 0)

-- the largest of f 0, .. f (n - 1); 0 where there is none
unfoldable pub most : ℕ → (ℕ → ℕ) → ℕ
most zero f = 0
most (suc k) f = max (most k f) (f k)

-- the list f 0, f 1, .. f (n - 1)
unfoldable pub tab : {A : Type 0} → ℕ → (ℕ → A) → List A
tab zero f = []
tab (suc k) f = tab k f ++ (f k ∷ [])

-- the bytes that each number below n gives, one after the other
unfoldable pub in_turn : ℕ → (ℕ → Bytes) → Bytes
in_turn zero bytes = []
in_turn (suc k) bytes = in_turn k bytes ++ bytes k

-- how many places a list by node has: node 0 does not exist, node 1 is the gateway, the probes are 2 to 64
abbrev pub places : ℕ
places = 65

-- what such a list has for each node
abbrev pub by_node : List ℕ → Node → ℕ
by_node list v = get_or list v 0

-- the same over the p probes, in rising number
abbrev pub each_probe : {A : Type 0} → ℕ → (ℕ → A → A) → A → A
each_probe p step = for_each p (λ k. step (k + 2))

abbrev pub some_probe : ℕ → (ℕ → Bool) → Bool
some_probe p test = some p (λ k. test (k + 2))

abbrev pub sum_probes : ℕ → (ℕ → ℕ) → ℕ
sum_probes p f = sum p (λ k. f (k + 2))

abbrev pub most_probes : ℕ → (ℕ → ℕ) → ℕ
most_probes p f = most p (λ k. f (k + 2))

-- the probes that pass the test, in rising number
unfoldable pub probes_that : ℕ → (ℕ → Bool) → List ℕ
probes_that zero test = []
probes_that (suc k) test = probes_that k test ++ cond (test (k + 2)) ((k + 2) ∷ []) []
