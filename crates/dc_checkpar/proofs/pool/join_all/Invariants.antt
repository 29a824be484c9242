use Rattle.std.proofs.Common.{◌≡◌, Err}
use Rattle.dc_checkpar.specs.Reports.{AreKnown, ArePromised, MayStick}
use Rattle.dc_checkpar.specs.declared.worker.Halt.TheVariants.{GateStuck}
use Rattle.dc_checkpar.proofs.pool.join_all.Given as goal

abbrev pub invariant-loop-child : goal.invariant-loop-child
invariant-loop-child g l =
    ArePromised l.shared.jobs.now l.shared.gate.now (λ h. h.promise.jobs.value) (λ h. h.promise.gate.value) l.children.items
    × (AreKnown (g.J.Jobs.verdict l.shared.jobs.now) l.fn.known.items → AreKnown (g.J.Jobs.verdict l.shared.jobs.now) l.known.items)
    × (l.end ≡ Err GateStuck → MayStick (g.J.Jobs.jobs l.shared.jobs.now) (g.G.Gate.may_stick l.shared.gate.now))

abbrev pub decreases-loop-child : goal.decreases-loop-child
decreases-loop-child g l = goal.left-loop-child g l
