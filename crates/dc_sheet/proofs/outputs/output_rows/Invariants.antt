use Rattle.std.proofs.Common.{map}
use Rattle.csv.specs.Records.{fields_of}
use Rattle.dc_sheet.specs.Sheets.{OutputsBefore}
use Rattle.dc_sheet.proofs.outputs.output_rows.Given as goal

abbrev pub invariant-loop-i : goal.invariant-loop-i
invariant-loop-i l = OutputsBefore l.titles.commas l.titles.columns l.titles.flags.now l.titles.places.now (map fields_of l.records) l.i l.rows.items
