use Rattle.std.proofs.Common.{map}
use Rattle.dc_cert.specs.NamedRows.{named_input, named_label}
use Rattle.dc_find.proofs.Lists.{AreRows}
use Rattle.dc_find.specs.Rows.{IsLabelRow}
use Rattle.dc_find.proofs.rows.label_rows.Given as goal

abbrev pub invariant-loop-label : goal.invariant-loop-label
invariant-loop-label l = AreRows (IsLabelRow l.tables (map named_input l.inputs)) l.label (map named_label l.rows.items)
