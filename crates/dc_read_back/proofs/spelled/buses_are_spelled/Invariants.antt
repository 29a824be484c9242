use Rattle.dc_read_back.specs.Printed.{AreSpelled}
use Rattle.dc_read_back.proofs.spelled.buses_are_spelled.Given as goal

abbrev pub invariant-loop-bus : goal.invariant-loop-bus
invariant-loop-bus l = AreSpelled l.tables.names.buses l.bus
