use Rattle.std.proofs.Common.{map}
use Rattle.dc_cert.specs.NamedRows.{named_input}
use Rattle.dc_find.proofs.Lists.{AreRows}
use Rattle.dc_find.specs.Rows.{IsInputRow}
use Rattle.dc_find.proofs.rows.input_rows.Given as goal

abbrev pub invariant-loop-bus : goal.invariant-loop-bus
invariant-loop-bus l = AreRows (IsInputRow l.tables) l.bus (map named_input l.rows.items)
