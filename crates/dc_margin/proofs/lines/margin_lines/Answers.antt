use Rattle.std.proofs.Common.{sym, subst, ◌∙◌}
use Rattle.std.specs.List.{All}
use Rattle.std.proofs.lemmas.List.Elements.{All-append, All-nil}
use Rattle.dc_cert.specs.Bounds.{certificate_rows}
use Rattle.dc_margin.proofs.Row.{job-more, lines-none}
use Rattle.dc_margin.specs.Lines.{IsLinePlaced, job_lines_of}
use Rattle.dc_margin.proofs.lines.margin_lines.Goals as goal

pub loop-job-init : goal.loop-job-init
loop-job-init c = record {
  lines = c.new-lines.ensures.items ∙ lines-none (job_lines_of c.args.tables.now (certificate_rows c.args.certificate.now));
  placed = subst (All (IsLinePlaced c.args.tables.now)) (sym c.new-lines.ensures.items) (All-nil (IsLinePlaced c.args.tables.now));
}

pub loop-job-preserved : goal.loop-job-preserved
loop-job-preserved c =
    let lines = job_lines_of c.args.tables.now (certificate_rows c.args.certificate.now) in
    let own = c.as_slice.ensures ∙ c.job_lines-own.ensures.lines in
    let step = c.in_ok-extend_from_slice.ensures.items in
    record {
      lines = job-more lines c.loop-job.job c.loop-job.lines.items c.as_slice.result.now c.extend_from_slice.new.self.items c.loop-job.invariant.lines own step;
      placed = subst (All (IsLinePlaced c.args.tables.now)) (sym step)
          (All-append (IsLinePlaced c.args.tables.now) c.loop-job.lines.items c.as_slice.result.now c.loop-job.invariant.placed (subst (All (IsLinePlaced c.args.tables.now)) (sym c.as_slice.ensures) c.job_lines-own.ensures.placed));
    }
