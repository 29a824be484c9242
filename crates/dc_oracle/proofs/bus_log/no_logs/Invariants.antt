use Rattle.dc_tables.specs.TableRows.{bus_row}
use Rattle.dc_oracle.specs.BusLog.{new_log, no_log}
use Rattle.dc_oracle.specs.Fresh.{AllMade}
use Rattle.dc_oracle.proofs.bus_log.no_logs.Given as goal

abbrev pub invariant-loop-bus : goal.invariant-loop-bus
invariant-loop-bus l = AllMade (λ b. new_log (bus_row l.tables b).queue) no_log l.bus l.logs.items
