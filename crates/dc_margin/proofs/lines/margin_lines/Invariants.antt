use Rattle.std.proofs.Common.{◌≡◌}
use Rattle.std.specs.List.{All}
use Rattle.dc_cert.specs.Bounds.{certificate_rows}
use Rattle.dc_margin.specs.Lines.{IsLinePlaced, lines_below, job_lines_of}
use Rattle.dc_margin.proofs.lines.margin_lines.Given as goal

abbrev pub invariant-loop-job : goal.invariant-loop-job
invariant-loop-job l = record {
  lines : l.lines.items ≡ lines_below (job_lines_of l.tables (certificate_rows l.certificate)) l.job;
  placed : All (IsLinePlaced l.tables) l.lines.items;
}
