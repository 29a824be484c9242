use Rattle.std.proofs.Common.{sym, ap, ◌∙◌}
use Rattle.dc_cert.specs.Bounds.{certificate_rows}
use Rattle.dc_check.specs.lemmas.Exact.{job-label}
use Rattle.dc_check.specs.Verdict.{job_verdict}
use Rattle.dc_check.proofs.job.job_fault.Goals as goal

pub returns-in-Input : goal.returns-in-Input
returns-in-Input c = c.input_job.ensures ∙ ap (job_verdict c.args.fitted.now.tables.now (certificate_rows c.args.fitted.now.certificate.now)) (sym (c.in-Input.ensures).1)

pub returns-in-Output : goal.returns-in-Output
returns-in-Output c = c.output_job.ensures ∙ ap (job_verdict c.args.fitted.now.tables.now (certificate_rows c.args.fitted.now.certificate.now)) (sym (c.in-Output.ensures).1)

pub returns-in-Label : goal.returns-in-Label
returns-in-Label c =
    c.label_fault.ensures
    ∙ sym (job-label c.args.fitted.now.tables.now (certificate_rows c.args.fitted.now.certificate.now) c.in-Label.label)
    ∙ ap (job_verdict c.args.fitted.now.tables.now (certificate_rows c.args.fitted.now.certificate.now)) (sym (c.in-Label.ensures).1)
