use Rattle.std.proofs.Common.{◌≡◌, ◌++◌}
use Rattle.dc_cert.specs.Bounds.{certificate_rows}
use Rattle.dc_run_margins.specs.Margins.{fed, lines_of_first}
use Rattle.dc_run_margins.proofs.least.append_first.Given as goal

abbrev pub invariant-loop-job : goal.invariant-loop-job
invariant-loop-job l = l.page ≡ l.initial.page ++ fed (lines_of_first l.told l.job l.fitted.tables.now (certificate_rows l.fitted.certificate.now))
