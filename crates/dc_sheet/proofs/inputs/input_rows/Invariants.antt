use Rattle.std.proofs.Common.{map}
use Rattle.csv.specs.Records.{fields_of}
use Rattle.dc_sheet.specs.Sheets.{InputsBefore}
use Rattle.dc_sheet.proofs.inputs.input_rows.Given as goal

abbrev pub invariant-loop-i : goal.invariant-loop-i
invariant-loop-i l = InputsBefore l.commas l.columns l.places (map fields_of l.records) l.i l.rows.items
