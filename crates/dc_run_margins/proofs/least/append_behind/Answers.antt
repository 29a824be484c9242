use Rattle.std.proofs.Common.{◌+◌, append-nil, sym, ◌∙◌}
use Rattle.dc_cert.specs.Bounds.{certificate_rows}
use Rattle.dc_margin.specs.Lines.{lines_below, job_lines_of}
use Rattle.dc_run_margins.proofs.Feeding.{job-more}
use Rattle.dc_run_margins.specs.Margins.{found_text}
use Rattle.dc_run_margins.proofs.least.append_behind.Goals as goal

pub loop-behind-init : goal.loop-behind-init
unfolding lines_below
loop-behind-init c = sym (append-nil c.args.page.now)

pub loop-behind-preserved : goal.loop-behind-preserved
loop-behind-preserved c =
    let t = c.args.fitted.now.tables.now in
    let rows = certificate_rows c.args.fitted.now.certificate.now in
    job-more (found_text c.args.told t rows) (λ k. job_lines_of t rows (c.args.jobs + k)) c.loop-behind.behind c.args.page.now c.loop-behind.page c.append_found.new.page
    c.as_slice.result.now c.loop-behind.invariant (c.as_slice.ensures ∙ c.job_lines-own.ensures.lines) c.in_ok-append_found.ensures
