use Rattle.std.proofs.Common.{sym, ap, ◌∙◌}
use Rattle.dc_cert.specs.Bounds.{certificate_rows}
use Rattle.dc_check.specs.Verdict.{job_verdict}
use Rattle.dc_checkpar.proofs.case.case_fault.Goals as goal

pub returns-in-Input : goal.returns-in-Input
returns-in-Input g c = c.input_fault.ensures ∙ ap (job_verdict c.args.case.now.fitted.now.tables.now (certificate_rows c.args.case.now.fitted.now.certificate.now)) (sym c.in-Input.ensures.1)

pub returns-in-Output : goal.returns-in-Output
returns-in-Output g c = c.output_fault.ensures ∙ ap (job_verdict c.args.case.now.fitted.now.tables.now (certificate_rows c.args.case.now.fitted.now.certificate.now)) (sym c.in-Output.ensures.1)
