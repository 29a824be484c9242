use Rattle.std.proofs.Common.{◌≡◌, Some}
use Rattle.csv.specs.Records.{fields_of}
use Rattle.dc_sheet.specs.Sheets.{sources_before}
use Rattle.dc_sheet.proofs.outputs.sources_of.Given as goal

abbrev pub invariant-loop-place : goal.invariant-loop-place
invariant-loop-place l = sources_before l.flags (fields_of l.line) l.place ≡ Some l.names.items
