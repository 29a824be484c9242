use Rattle.std.proofs.Common.{◌≡◌, None}
use Rattle.dc_check.specs.Verdict.{first_job_fault}
use Rattle.dc_checkpar.proofs.pool.decide.Given as goal

abbrev pub invariant-loop-job : goal.invariant-loop-job
invariant-loop-job g l = first_job_fault (g.J.Jobs.verdict l.jobs) l.job ≡ None
