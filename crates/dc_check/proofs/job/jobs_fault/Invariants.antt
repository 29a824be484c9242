use Rattle.std.proofs.Common.{◌≡◌, None}
use Rattle.dc_cert.specs.Bounds.{certificate_rows}
use Rattle.dc_check.specs.Verdict.{job_verdict, first_job_fault}
use Rattle.dc_check.proofs.job.jobs_fault.Given as goal

abbrev pub invariant-loop-job : goal.invariant-loop-job
invariant-loop-job l = first_job_fault (job_verdict l.fitted.tables.now (certificate_rows l.fitted.certificate.now)) l.job ≡ None
