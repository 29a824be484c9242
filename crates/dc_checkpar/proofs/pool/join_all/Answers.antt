use Rattle.std.proofs.Common.{subst}
use Rattle.dc_checkpar.proofs.Joined.{halt-of, promised-less}
use Rattle.dc_checkpar.specs.Reports.{AreJudged, ArePromised, MayStick}
use Rattle.dc_checkpar.proofs.pool.join_all.Goals as goal

pub loop-child-preserved : goal.loop-child-preserved
loop-child-preserved g c =
    let before = c.loop-child.invariant in
    let child = c.in-Some.child in
    let reported = c.join-judged.ensures in
    let rest = promised-less c.pop.new.self.items child c.args.shared.now.jobs.now c.args.shared.now.gate.now (λ h. h.promise.jobs.value) (λ h. h.promise.gate.value)
    (subst (λ hs. ArePromised c.args.shared.now.jobs.now c.args.shared.now.gate.now (λ h. h.promise.jobs.value) (λ h. h.promise.gate.value) hs) c.in-Some.ensures.items before.0) in
    let judged = subst (λ j. AreJudged (g.J.Jobs.verdict j) c.join-judged.result.judged.items) rest.1.0 reported.judged in (
      rest.0,
      (λ known. c.note.ensures.known (g.J.Jobs.verdict c.args.shared.now.jobs.now) judged (before.1 known)),
      halt-of c.first_halt-end.result c.loop-child.end c.join-judged.result.end (MayStick (g.J.Jobs.jobs c.args.shared.now.jobs.now) (g.G.Gate.may_stick c.args.shared.now.gate.now)) c.first_halt-end.ensures before.2
          (λ is.
          subst (λ q. MayStick (g.J.Jobs.jobs c.args.shared.now.jobs.now) (g.G.Gate.may_stick q)) rest.1.1
          (subst (λ j. MayStick (g.J.Jobs.jobs j) (g.G.Gate.may_stick child.promise.gate.value)) rest.1.0 (reported.stuck is))),
    )
