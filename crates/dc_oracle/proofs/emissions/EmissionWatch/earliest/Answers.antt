use Rattle.std.proofs.Common.{arith}
use Rattle.dc_oracle.proofs.Emitting.{limit-more}
use Rattle.dc_oracle.proofs.emissions.EmissionWatch.earliest.Goals as goal

pub loop-label-preserved : goal.loop-label-preserved
loop-label-preserved c = limit-more c.args.tables.now c.args.self.now.last.items c.loop-label.label c.loop-label.first c.label_limit.result c.min-first.result c.loop-label.invariant c.label_limit.ensures (omega (arith, c.min-first.ensures))
