use Rattle.std.proofs.Common.{take}
use Rattle.dc_tables.specs.KeptOfBuses.{AreBusesKept}
use Rattle.dc_tables.proofs.alike.kept_of_buses.Given as goal

abbrev pub invariant-loop-bus : goal.invariant-loop-bus
invariant-loop-bus l = AreBusesKept l.rows.items (take l.bus-index l.buses) l.streams
