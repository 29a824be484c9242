use Rattle.dc_event.specs.LongNames.{AreNamesFound}
use Rattle.dc_event.proofs.names.names_of_outputs.Given as goal

abbrev pub invariant-loop-output : goal.invariant-loop-output
invariant-loop-output l = AreNamesFound l.tables.names.outputs l.names
