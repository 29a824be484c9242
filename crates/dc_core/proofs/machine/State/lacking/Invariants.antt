use Rattle.dc_core.specs.Lacking.{RoutersWork, OutputsWork}
use Rattle.dc_core.proofs.machine.State.lacking.Given as goal

abbrev pub invariant-loop-r : goal.invariant-loop-r
invariant-loop-r l = RoutersWork l.tables l.self.routers.items l.r

abbrev pub invariant-loop-o : goal.invariant-loop-o
invariant-loop-o l = OutputsWork l.tables l.self.outputs.items l.o
