use Rattle.std.proofs.Common.{sym, ap, ◌∙◌}
use Rattle.dc_cert.specs.Bounds.{certificate_rows}
use Rattle.dc_check.specs.lemmas.Jobs.{job-in_range, rules-input, rules-output, rules-label}
use Rattle.dc_check.specs.Verdict.{job_rules}
use Rattle.dc_check.proofs.job.job_fault_given.Goals as goal

pub returns-in-Input : goal.returns-in-Input
returns-in-Input c =
    let t = c.args.fitted.now.tables.now in
    let rows = certificate_rows c.args.fitted.now.certificate.now in
    let at = c.in-Input.ensures in
    c.input_fault.ensures
    ∙ sym (job-in_range t rows c.args.job c.requires.ranges ∙ ap (job_rules t rows) at.1 ∙ rules-input t rows c.in-Input.bus at.0)

pub returns-in-Output : goal.returns-in-Output
returns-in-Output c =
    let t = c.args.fitted.now.tables.now in
    let rows = certificate_rows c.args.fitted.now.certificate.now in
    let at = c.in-Output.ensures in
    c.output_fault.ensures
    ∙ sym (job-in_range t rows c.args.job c.requires.ranges ∙ ap (job_rules t rows) at.1 ∙ rules-output t rows c.in-Output.output at.0)

pub returns-in-Label : goal.returns-in-Label
returns-in-Label c =
    let t = c.args.fitted.now.tables.now in
    let rows = certificate_rows c.args.fitted.now.certificate.now in
    let at = c.in-Label.ensures in
    c.label_fault.ensures
    ∙ sym (job-in_range t rows c.args.job c.requires.ranges ∙ ap (job_rules t rows) at.1 ∙ rules-label t rows c.in-Label.label)
