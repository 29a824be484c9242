use Rattle.std.proofs.Common.{◌≡◌, ◌+◌, length, sym, ap, ◌∙◌, arith, below_more}
use Rattle.dc_cert.specs.Bounds.{certificate_rows}
use Rattle.dc_cert.specs.NamedRows.{named_rows}
use Rattle.dc_check.specs.Accepts.{AcceptsLabel}
use Rattle.dc_check.specs.Verdict.{job_verdict}
use Rattle.dc_find.proofs.Broken.{label-broken, label-kept}
use Rattle.dc_find.proofs.finder.broken_rule.Goals as goal

pub returns-in-Some : goal.returns-in-Some
returns-in-Some c =
    let job : length c.args.tables.now.buses + length c.args.tables.now.outputs + c.loop-label.label ≡ c.bus_count.result + c.output_count.result + c.loop-label.label = omega (arith, c.bus_count.ensures, c.output_count.ensures) in
    label-broken c.args.tables.now c.valid.ensures (named_rows c.args.certificate.now) c.requires.inputs c.requires.outputs c.requires.labels
    c.loop-label.label (omega (arith, c.loop-label-test.true, c.label_count-label-end.ensures)) c.loop-label.invariant c.in-Some.fault
    (ap (job_verdict c.args.tables.now (certificate_rows c.args.certificate.now)) job ∙ sym c.job_fault.ensures ∙ c.in-Some.is)

pub loop-label-preserved : goal.loop-label-preserved
loop-label-preserved c =
    let job : length c.args.tables.now.buses + length c.args.tables.now.outputs + c.loop-label.label ≡ c.bus_count.result + c.output_count.result + c.loop-label.label = omega (arith, c.bus_count.ensures, c.output_count.ensures) in
    below_more (λ x. AcceptsLabel c.args.tables.now x (certificate_rows c.args.certificate.now)) c.loop-label.label c.loop-label.invariant
    (label-kept c.args.tables.now c.valid.ensures (named_rows c.args.certificate.now) c.requires.inputs c.requires.outputs c.requires.labels c.loop-label.label
    (ap (job_verdict c.args.tables.now (certificate_rows c.args.certificate.now)) job ∙ sym c.job_fault.ensures ∙ c.in_default.is))
