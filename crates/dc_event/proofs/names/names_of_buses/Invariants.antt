use Rattle.dc_event.specs.LongNames.{AreNamesFound}
use Rattle.dc_event.proofs.names.names_of_buses.Given as goal

abbrev pub invariant-loop-bus : goal.invariant-loop-bus
invariant-loop-bus l = AreNamesFound l.tables.names.buses l.names
