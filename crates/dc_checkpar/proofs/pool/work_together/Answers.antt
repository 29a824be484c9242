use Rattle.dc_checkpar.proofs.Joined.{halt-of, not-stuck}
use Rattle.dc_checkpar.specs.Reports.{MayStick}
use Rattle.dc_checkpar.proofs.pool.work_together.Goals as goal

pub returns : goal.returns
returns g c =
    let M = MayStick (g.J.Jobs.jobs c.args.shared.now.jobs.now) (g.G.Gate.may_stick c.args.shared.now.gate.now) in
    record {
      known = c.join_all-joined.ensures.known (c.note.ensures.known (g.J.Jobs.verdict c.args.shared.now.jobs.now) c.work-judged.ensures.judged c.requires.known);
      stuck =
          halt-of c.first_halt-2.result c.start_all-started.result c.first_halt.result M c.first_halt-2.ensures
          (not-stuck c.start_all-started.result M c.start_all-started.ensures.err)
          (halt-of c.first_halt.result c.work-judged.result.end c.join_all-joined.result M c.first_halt.ensures c.work-judged.ensures.stuck c.join_all-joined.ensures.stuck);
    }
