use Rattle.std.proofs.Common.{append-nil, sym, ◌∙◌}
use Rattle.dc_cert.specs.Bounds.{certificate_rows}
use Rattle.dc_margin.specs.Lines.{lines_below, job_lines_of}
use Rattle.dc_run_margins.proofs.Feeding.{job-more}
use Rattle.dc_run_margins.specs.Objects.{margin_told}
use Rattle.dc_run_margins.proofs.least.append_first.Goals as goal

pub loop-job-init : goal.loop-job-init
unfolding lines_below
loop-job-init c = sym (append-nil c.args.page.now)

pub loop-job-preserved : goal.loop-job-preserved
loop-job-preserved c =
    let fitted = c.args.fitted.now in
    job-more (margin_told c.args.told fitted.tables.now) (job_lines_of fitted.tables.now (certificate_rows fitted.certificate.now)) c.loop-job.job c.args.page.now c.loop-job.page c.append_lines.new.page
    c.as_slice.result.now c.loop-job.invariant (c.as_slice.ensures ∙ c.job_lines-own.ensures.lines) c.in_ok-append_lines.ensures
