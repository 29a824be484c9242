use Rattle.std.proofs.Common.{is_some, sym, ap, ◌∙◌, arith}
use Rattle.dc_cert.specs.Bounds.{certificate_rows}
use Rattle.dc_check.specs.lemmas.Jobs.{jobs-zero, jobs-more, jobs-found}
use Rattle.dc_check.specs.Verdict.{job_count, job_verdict}
use Rattle.dc_check.proofs.job.jobs_fault.Goals as goal

pub loop-job-init : goal.loop-job-init
loop-job-init c = jobs-zero (job_verdict c.args.fitted.now.tables.now (certificate_rows c.args.fitted.now.certificate.now))

pub loop-job-preserved : goal.loop-job-preserved
loop-job-preserved c =
    jobs-more (job_verdict c.args.fitted.now.tables.now (certificate_rows c.args.fitted.now.certificate.now)) c.loop-job.job c.loop-job.invariant
    (ap is_some (sym c.job_fault-fault.ensures) ∙ sym c.is_some.ensures ∙ c.if-is_some.false)

pub returns-then-is_some : goal.returns-then-is_some
returns-then-is_some c =
    c.job_fault-fault.ensures
    ∙ jobs-found (job_verdict c.args.fitted.now.tables.now (certificate_rows c.args.fitted.now.certificate.now)) (job_count c.args.fitted.now.tables.now) c.loop-job.job
    (omega (arith, c.loop-job-test.true, c.bus_count.ensures, c.output_count.ensures, c.label_count.ensures)) c.loop-job.invariant
    (ap is_some (sym c.job_fault-fault.ensures) ∙ sym c.is_some.ensures ∙ c.if-is_some.true)
