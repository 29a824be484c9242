use Rattle.dc_core.specs.Fresh.{fresh_output, AllMade}
use Rattle.dc_core.specs.States.{no_output}
use Rattle.dc_core.proofs.start.fresh_outputs.Given as goal

abbrev pub invariant-loop-o : goal.invariant-loop-o
invariant-loop-o l = AllMade (fresh_output l.tables) no_output l.o l.outputs.items
