use Rattle.std.proofs.Common.{map}
use Rattle.dc_cert.specs.NamedRows.{named_output}
use Rattle.dc_find.proofs.Lists.{AreRows}
use Rattle.dc_find.specs.Rows.{IsOutputRow}
use Rattle.dc_find.proofs.rows.output_rows.Given as goal

abbrev pub invariant-loop-output : goal.invariant-loop-output
invariant-loop-output l = AreRows (IsOutputRow l.tables) l.output (map named_output l.rows.items)
