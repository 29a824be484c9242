use Rattle.std.proofs.Common.{is_some, sym, ap, ◌∙◌, arith}
use Rattle.dc_check.specs.lemmas.Jobs.{jobs-zero, jobs-more, jobs-found}
use Rattle.dc_checkpar.proofs.pool.decide.Goals as goal

pub loop-job-init : goal.loop-job-init
loop-job-init g c = jobs-zero (g.J.Jobs.verdict c.args.jobs.now)

pub loop-job-preserved : goal.loop-job-preserved
loop-job-preserved g c =
    jobs-more (g.J.Jobs.verdict c.args.jobs.now) c.loop-job.job c.loop-job.invariant
    (ap is_some (sym c.in-Ok.ensures.ok) ∙ sym c.is_some.ensures ∙ c.if-is_some.false)

pub returns-then-is_some-clause-ok : goal.returns-then-is_some-clause-ok
returns-then-is_some-clause-ok g c =
    c.in-Ok.ensures.ok
    ∙ jobs-found (g.J.Jobs.verdict c.args.jobs.now) (g.J.Jobs.jobs c.args.jobs.now) c.loop-job.job
    (omega (arith, c.loop-job-test.true, c.len-job-end.ensures)) c.loop-job.invariant
    (ap is_some (sym c.in-Ok.ensures.ok) ∙ sym c.is_some.ensures ∙ c.if-is_some.true)
