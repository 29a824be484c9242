use Rattle.std.proofs.Common.{◌≡◌, ◌+◌, ◌++◌, map}
use Rattle.dc_cert.specs.Bounds.{certificate_rows}
use Rattle.dc_margin.specs.Lines.{lines_below, job_lines_of}
use Rattle.dc_run_margins.specs.Margins.{fed, found_text}
use Rattle.dc_run_margins.proofs.least.append_behind.Given as goal

abbrev pub invariant-loop-behind : goal.invariant-loop-behind
invariant-loop-behind l =
    let t = l.fitted.tables.now in
    let rows = certificate_rows l.fitted.certificate.now in
    l.page ≡ l.initial.page ++ fed (map (found_text l.told t rows) (lines_below (λ k. job_lines_of t rows (l.jobs + k)) l.behind))
