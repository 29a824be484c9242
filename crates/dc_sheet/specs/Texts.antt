-- A text of a sheet as its records.
use Rattle.std.specs.Prelude.{◌≡◌, ℕ, ◌==◌, ◌&&◌, ◌||◌, Bool, nat_le, if◌then◌else◌, Option, Some, None, List, map, take, position, count_by}
use Rattle.csv.specs.Reading.{AreRecords, default_config, strip_bom}
use Rattle.csv.specs.Records.{trimmed}
use Rattle.csv.specs.declared.parser.Config.{Config}
use Rattle.csv.specs.declared.parser.State.TheVariants as st

-- a carriage return or a line feed
abbrev pub is_line_end : ℕ → Bool
is_line_end c = c == 13 || c == 10

-- the bytes before the first of these
abbrev pub line_until : List ℕ → Option ℕ → List ℕ
line_until text None = text
line_until text (Some end) = take end text

abbrev pub first_line : List ℕ → List ℕ
first_line text = line_until text (position is_line_end text)

-- how often a byte stands there
abbrev pub times_in : (byte : ℕ) → List ℕ → ℕ
times_in byte line = count_by (λ x. x == byte) line

-- of the comma, the semicolon and the tab, in this order, the one that stands most often
abbrev pub commonest : List ℕ → ℕ
commonest line =
    if nat_le (times_in 59 line) (times_in 44 line) && nat_le (times_in 9 line) (times_in 44 line) then 44
    else if nat_le (times_in 9 line) (times_in 59 line) then 59
    else 9

-- the byte that parts the cells of a text
abbrev pub separator_of : List ℕ → ℕ
separator_of text = commonest (first_line text)

-- how records are read: as RFC 4180 has them, with this byte between the cells
abbrev pub sheet_config : (separator : ℕ) → Config
sheet_config separator = record default_config { delimiter = separator }

-- the records of a text behind a byte order mark, each cell without the white space at its ends
abbrev pub IsSheetText : (separator : ℕ) (text : List ℕ) (records : List (List (List ℕ))) → Type 0
IsSheetText separator text records =
    (raw : List (List (List ℕ))) × AreRecords (sheet_config separator) st.StartRecord (strip_bom text) raw × (records ≡ map (map trimmed) raw)
