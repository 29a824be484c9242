use Rattle.std.proofs.Common.{◌≡◌, ◌<◌, ℕ, List, Some, map}
use Rattle.csv.specs.Reading.{Reached, Ready, source_of, strip_bom}
use Rattle.csv.specs.Records.{fields_of, trimmed}
use Rattle.csv.specs.declared.parser.State.TheVariants as st
use Rattle.csv.specs.declared.reader.Trim.TheVariants as trim
use Rattle.dc_sheet.specs.Texts.{sheet_config}
use Rattle.dc_sheet.proofs.text.records.Given as goal

abbrev pub invariant-loop-row : goal.invariant-loop-row
invariant-loop-row l = (l.row-iterator.rdr.trim ≡ trim.None) × Ready l.row-iterator.rdr × (0 < l.row-iterator.left) × (l.row-iterator.rdr.config ≡ sheet_config l.fn.separator)
    × (y : List ℕ) × (raw : List (List (List ℕ))) × (source_of (λ s. Some s.now) l.row-iterator.rdr ≡ Some y)
    × Reached (sheet_config l.fn.separator) st.StartRecord (strip_bom l.fn.text) raw l.row-iterator.rdr.state y
    × (map fields_of l.rows.items ≡ map (map trimmed) raw)
