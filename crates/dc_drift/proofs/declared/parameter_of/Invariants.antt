use Rattle.std.proofs.Common.{◌≡◌, drop}
use Rattle.dc_dict.specs.Rows.{row_of}
use Rattle.dc_drift.proofs.declared.parameter_of.Given as goal

abbrev pub invariant-loop-row : goal.invariant-loop-row
invariant-loop-row l = row_of (drop l.row-index l.parameters) l.label l.equipment ≡ row_of l.parameters l.label l.equipment
