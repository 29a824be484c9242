use Rattle.std.proofs.Common.{◌≡◌, ◌++◌, map, take}
use Rattle.dc_cert.specs.Bounds.{certificate_rows}
use Rattle.dc_run_margins.specs.Margins.{fed, found_text}
use Rattle.dc_run_margins.proofs.least.append_found.Given as goal

abbrev pub invariant-loop-own : goal.invariant-loop-own
invariant-loop-own l = l.page ≡ l.initial.page ++ fed (map (found_text l.told l.fitted.tables.now (certificate_rows l.fitted.certificate.now)) (take l.own-index l.lines))
