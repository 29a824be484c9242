use Rattle.std.proofs.Common.{◌≡◌}
use Rattle.dc_checkpar.specs.Drawing.{past}
use Rattle.dc_checkpar.specs.Reports.{AreJudged}
use Rattle.dc_checkpar.proofs.worker.judge_all.Given as goal

abbrev pub invariant-loop : goal.invariant-loop
invariant-loop g l =
    ((l.drawer.0 ≡ l.shared.source.now.0) × (l.drawer.1.jobs ≡ l.shared.source.now.1) × (past l.shared.source.now.1 l.drawer.1.drawn ≡ 0))
    × (AreJudged (g.J.Jobs.verdict l.shared.jobs.now) l.fn.judged.items → AreJudged (g.J.Jobs.verdict l.shared.jobs.now) l.judged.items)
