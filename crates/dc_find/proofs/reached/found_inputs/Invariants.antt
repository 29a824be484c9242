use Rattle.std.proofs.Common.{map}
use Rattle.dc_cert.specs.NamedRows.{named_input}
use Rattle.dc_find.proofs.Lists.{AreRows}
use Rattle.dc_find.specs.Found.{IsFoundInput}
use Rattle.dc_find.proofs.reached.found_inputs.Given as goal

abbrev pub invariant-loop-bus : goal.invariant-loop-bus
invariant-loop-bus l = AreRows (IsFoundInput l.tables) l.bus (map named_input l.rows.items)
