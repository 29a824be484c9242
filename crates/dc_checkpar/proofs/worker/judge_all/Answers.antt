use Rattle.std.proofs.Common.{◌<◌, sym, ap, subst, ◌∙◌, arith}
use Rattle.dc_checkpar.proofs.Draws.{past-below}
use Rattle.dc_checkpar.proofs.Joined.{judged-one}
use Rattle.dc_checkpar.specs.Drawing.{past}
use Rattle.dc_checkpar.specs.Reports.{AreJudged}
use Rattle.dc_checkpar.proofs.worker.judge_all.Goals as goal

pub loop-preserved : goal.loop-preserved
loop-preserved g c =
    let drawn = c.draw-job.ensures.drawn in
    let before = c.loop.invariant in
    let verdict = g.J.Jobs.verdict c.args.shared.now.jobs.now in
    let low : c.draw-job.result < c.args.shared.now.source.now.1 = omega (arith, c.if-job-len.false, c.len.ensures, c.requires.jobs.1) in (
      (
        c.draw-job.ensures.same ∙ before.0.0,
        ap (λ v. v.jobs) drawn ∙ before.0.1,
        ap (λ v. past c.args.shared.now.source.now.1 v.drawn) drawn ∙ past-below c.args.shared.now.source.now.1 c.loop.drawer.1.drawn c.draw-job.result low before.0.2,
      ),
      (λ all. subst (AreJudged verdict) (sym c.push_reserved.ensures.items)
          (judged-one verdict _ _ (subst (AreJudged verdict) (sym c.reserve.ensures.items) (before.1 all)) c.in-Ok.ensures.ok)),
    )
