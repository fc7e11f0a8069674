-- `sheet::probes_test` meets its contract: the laws of a scan.
use Rattle.std.proofs.lemmas.Result.{err_from_is_err_and}
use Rattle.sheet.proofs.Scan.{scan-starts, scan-next, scan-stops}
use Rattle.sheet.proofs.probes_test.Goals as goal

pub loop-k-init : goal.loop-k-init
loop-k-init c = scan-starts _

pub loop-k-preserved : goal.loop-k-preserved
loop-k-preserved c = scan-next _ _ c.loop-k.invariant c.in_ok-probe_test.ensures

pub returns-in_err-probe_test : goal.returns-in_err-probe_test
returns-in_err-probe_test c =
    let p = err_from_is_err_and c.from_residual.result c.from_residual.ensures.1 in
    rw (p.1, p.2) (scan-stops _ _ c.loop-k.invariant _ c.loop-k-test.true _ c.in_err-probe_test.ensures)
