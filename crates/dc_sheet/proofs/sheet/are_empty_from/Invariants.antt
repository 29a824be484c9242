use Rattle.std.proofs.Common.{◌≡◌, drop}
use Rattle.std.specs.List.{list_all}
use Rattle.csv.specs.Records.{fields_of}
use Rattle.dc_sheet.specs.Sheets.{is_empty_cell}
use Rattle.dc_sheet.proofs.sheet.are_empty_from.Given as goal

abbrev pub invariant-loop-place : goal.invariant-loop-place
invariant-loop-place l = list_all is_empty_cell (drop l.place (fields_of l.line)) ≡ list_all is_empty_cell (drop l.fn.first (fields_of l.line))
