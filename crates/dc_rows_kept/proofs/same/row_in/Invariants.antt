use Rattle.std.proofs.Common.{◌≡◌, drop}
use Rattle.dc_dict.specs.Rows.{row_of}
use Rattle.dc_rows_kept.proofs.same.row_in.Given as goal

-- what is left decides
abbrev pub invariant-loop-row : goal.invariant-loop-row
invariant-loop-row l = row_of (drop l.row-index l.rows) l.label l.equipment ≡ row_of l.rows l.label l.equipment
