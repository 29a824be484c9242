use Rattle.std.proofs.Common.{◌≡◌, ◌<◌, ℕ, false, length, get_or}
use Rattle.csv.specs.Records.{fields_of}
use Rattle.dc_cell.specs.declared.titles.Column.TheVariants as col
use Rattle.dc_sheet.specs.Places.{is_titled}
use Rattle.dc_sheet.proofs.outputs.source_flags.Given as goal

abbrev pub invariant-loop-place : goal.invariant-loop-place
invariant-loop-place l =
    record {
      all : length l.flags.items ≡ l.place;
      each : (k : ℕ) → k < l.place → get_or l.flags.items k false ≡ is_titled col.Sources (fields_of l.header) k;
    }
