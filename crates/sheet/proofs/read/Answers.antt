-- `sheet::read` meets its contract: stage by stage, what each answered is what the meaning says; the first that refuses decides, and where none
-- does what was read on the way is the tree.
use mathlib.Core.Path.{◌≡◌, ◌∙◌}
use mathlib.Core.Bool.{true}
use native.Mathlib.Omega.{arith}
use Rattle.std.proofs.lemmas.Result.{err_from_is_err_and}
use Rattle.meaning.specs.Words.{tab, places}
use Rattle.meaning.specs.Sheet.{parent_of}
use Rattle.meaning.specs.Answer.{is_accepted, counts_test}
use Rattle.sheet.proofs.SheetRead.{probes_answer, walks_answer, no_number, probes-read, parents-read, packets-read, pairs-read}
use Rattle.sheet.proofs.SheetRead.{walks-read, levels-read, few-probes, counts-decide, probes-decide, walks-decide, pairs-decide, tree-read}
use Rattle.sheet.proofs.read.Goals as goal

pub returns-in_err-counts_test : goal.returns-in_err-counts_test
returns-in_err-counts_test c =
    let e = err_from_is_err_and c.from_residual.result c.from_residual.ensures.1 in
    rw (e.1, e.2) (counts-decide _ _ c.in_err-counts_test.ensures)

-- behind the counts
pub returns-in_err-probes_test : goal.returns-in_err-probes_test
returns-in_err-probes_test c =
    let e = err_from_is_err_and c.from_residual-in_err-probes_test.result c.from_residual-in_err-probes_test.ensures.1 in
    rw (e.1, e.2)
    (probes-decide _ (no_number c.in_ok-counts_test.ensures) _
    (c.in_err-probes_test.ensures ∙ probes-read c.args.sheet.now _ _ c.number_at-probes.ensures c.probe_records-records.ensures))

-- behind the probes
pub walks_test-requires : goal.walks_test-requires
walks_test-requires c = omega (arith, few-probes _ (no_number c.in_ok-counts_test.ensures), c.number_at-probes.ensures)

pub returns-in_err-levels : goal.returns-in_err-levels
returns-in_err-levels c =
    let s = c.args.sheet.now in
    let p = c.number_at-probes.ensures in
    let records = c.probe_records-records.ensures in
    let counts : is_accepted (counts_test s) ≡ true = no_number c.in_ok-counts_test.ensures in
    let probes : is_accepted (probes_answer s) ≡ true = no_number (c.in_ok-probes_test.ensures ∙ probes-read s _ _ p records) in
    let parents : c.parents-parents.result ≡ tab places (parent_of s) = c.parents-parents.ensures ∙ parents-read s _ _ p records in
    let e = err_from_is_err_and c.from_residual-in_err-levels.result c.from_residual-in_err-levels.ensures.1 in
    rw (e.1, e.2) (walks-decide s counts probes _ (c.in_err-levels.ensures ∙ walks-read s counts _ _ p parents))

-- behind the walks
pub returns-in_err-pairs_test : goal.returns-in_err-pairs_test
returns-in_err-pairs_test c =
    let s = c.args.sheet.now in
    let p = c.number_at-probes.ensures in
    let records = c.probe_records-records.ensures in
    let counts : is_accepted (counts_test s) ≡ true = no_number c.in_ok-counts_test.ensures in
    let probes : is_accepted (probes_answer s) ≡ true = no_number (c.in_ok-probes_test.ensures ∙ probes-read s _ _ p records) in
    let parents : c.parents-parents.result ≡ tab places (parent_of s) = c.parents-parents.ensures ∙ parents-read s _ _ p records in
    let walks : is_accepted (walks_answer s) ≡ true = no_number (c.in_ok-levels.ensures.0 ∙ walks-read s counts _ _ p parents) in
    let e = err_from_is_err_and c.from_residual-in_err-pairs_test.result c.from_residual-in_err-pairs_test.ensures.1 in
    rw (e.1, e.2)
    (c.in_err-pairs_test.ensures ∙ pairs-read s _ _ _ p c.pair_count.ensures c.pair_records.ensures ∙ pairs-decide s counts probes walks)

-- behind the pairs
pub returns : goal.returns
returns c =
    let s = c.args.sheet.now in
    let p = c.number_at-probes.ensures in
    let records = c.probe_records-records.ensures in
    let counts : is_accepted (counts_test s) ≡ true = no_number c.in_ok-counts_test.ensures in
    let probes : is_accepted (probes_answer s) ≡ true = no_number (c.in_ok-probes_test.ensures ∙ probes-read s _ _ p records) in
    let parents : c.parents-parents.result ≡ tab places (parent_of s) = c.parents-parents.ensures ∙ parents-read s _ _ p records in
    let walks : is_accepted (walks_answer s) ≡ true = no_number (c.in_ok-levels.ensures.0 ∙ walks-read s counts _ _ p parents) in
    let whole = c.in_ok-pairs_test.ensures ∙ pairs-read s _ _ _ p c.pair_count.ensures c.pair_records.ensures ∙ pairs-decide s counts probes walks in
    let packets = c.packets-packets.ensures ∙ packets-read s _ _ p records in
    let levels = c.in_ok-levels.ensures.1 ∙ levels-read s counts _ _ p parents in
    (whole, tree-read s counts (no_number whole) _ _ _ _ _ p parents packets levels c.hops-hops.ensures)
