use Rattle.std.proofs.Common.{◌≡◌, ◌<◌, ℕ, false}
use Rattle.csv.specs.Records.{fields_of}
use Rattle.dc_sheet.specs.Places.{is_titled}
use Rattle.dc_sheet.proofs.places.place_of.Given as goal

abbrev pub invariant-loop-place : goal.invariant-loop-place
invariant-loop-place l = (other : ℕ) → other < l.place → is_titled l.column (fields_of l.header) other ≡ false
