use Rattle.std.proofs.Common.{map}
use Rattle.dc_cert.specs.NamedRows.{named_output}
use Rattle.dc_find.proofs.Lists.{AreRows}
use Rattle.dc_find.specs.Found.{IsFoundOutput}
use Rattle.dc_find.proofs.reached.found_outputs.Given as goal

abbrev pub invariant-loop-output : goal.invariant-loop-output
invariant-loop-output l = AreRows (IsFoundOutput l.tables) l.output (map named_output l.rows.items)
