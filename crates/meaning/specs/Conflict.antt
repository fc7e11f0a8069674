-- RULES, "Conflicts", after section 2 of the paper.
use Rattle.std.specs.Prelude.{Bool, false, not, ◌&&◌, ◌||◌, List, [], ℕ, eqb, get_or}
use Rattle.meaning.specs.Words.{Bytes, Node, Relation, count, most_probes, tab, places}
use Rattle.meaning.specs.Yard.{is_probe}
use Rattle.meaning.specs.Sheet.{probe_count, pair_count, pair_records, parent_of, interfere}

-- "Conflicts": x and y are linked by the tree or by an interfering pair
abbrev pub linked : (parent : Node → Node) → (pair : Relation) → Relation
linked parent pair x y = eqb (parent x) y || eqb (parent y) x || pair x y

-- "Conflicts": one is the parent of the other, or one is linked with the parent of the other
unfoldable pub disturb : (parent : Node → Node) → (pair : Relation) → Relation
disturb parent pair x y =
    eqb (parent x) y || eqb (parent y) x || linked parent pair x (parent y) || linked parent pair y (parent x)

-- "Conflicts": two different probes x and y conflict; only probes send
unfoldable pub conflict : (p : ℕ) → (parent : Node → Node) → (pair : Relation) → Relation
conflict p parent pair x y = is_probe p x && (is_probe p y && (not (eqb x y) && disturb parent pair x y))

-- "Conflicts": a table is an array of rows, one row a probe
abbrev pub table_of : Relation → List (List Bool)
table_of relation = tab places (λ x. tab places (relation x))

-- what a table says of x and y
abbrev pub entry : List (List Bool) → Relation
entry table x y = get_or (get_or table x []) y false

-- "Conflicts": the conflict table of a sheet
unfoldable pub conflict_table : Bytes → List (List Bool)
conflict_table s = table_of (conflict (probe_count s) (parent_of s) (interfere (pair_records s) (pair_count s)))

-- "Conflicts": the degree of a probe is its number of conflicting probes; the gateway isn't counted
abbrev pub degree : Relation → Node → ℕ
degree relation x = count places (relation x)

-- "Conflicts": the largest degree of a sheet's probes, 0 with no probes
abbrev pub largest_degree : Bytes → ℕ
largest_degree s = most_probes (probe_count s) (degree (entry (conflict_table s)))
