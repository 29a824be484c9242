use Rattle.std.proofs.Common.{◌≡◌, ◌<◌, ℕ, true, Some}
use Rattle.csv.specs.Records.{fields_of}
use Rattle.dc_cell.specs.Titles.{key_of}
use Rattle.dc_sheet.specs.Places.{cell_at, is_clear}
use Rattle.dc_sheet.proofs.collect.read_titles.Given as goal

abbrev pub invariant-loop-place : goal.invariant-loop-place
invariant-loop-place l = l.clear ≡ true → (other : ℕ) → other < l.place → is_clear l.sheet (key_of (cell_at (fields_of l.header) (Some other))) ≡ true
