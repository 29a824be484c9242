-- The rows of the two sheets.
use Rattle.std.specs.Bool.{MatchBool}
use Rattle.std.specs.List.{list_all}
use Rattle.std.specs.Prelude.{◌≡◌, ℕ, ◌+◌, ◌==◌, ◌||◌, ◌≤◌, ◌<◌, Bool, true, false, suc, zero, if◌then◌else◌, List, [], ◌∷◌, ◌++◌, length, drop, slice_index, get_or, Option, Some, None, option_and_then, Result, Ok, Err}
use Rattle.dc_cell.specs.Words.{speed_of, format_of, police_of, input_sdi_of, output_sdi_of}
use Rattle.dc_cell.specs.Digits.{label_of, equipment_of, queue_of, steps_of}
use Rattle.dc_cell.specs.Times.{time_of}
use Rattle.dc_cell.specs.Names.{name_cell_of, name_if_any_of, names_behind}
use Rattle.dc_cell.specs.declared.fault.CellFault.{CellFault}
use Rattle.dc_cell.specs.declared.fault.CellFault.TheVariants.{NoWithin}
use Rattle.dc_cell.specs.declared.rows.InputRow.{InputRow}
use Rattle.dc_cell.specs.declared.rows.OutputRow.{OutputRow}
use Rattle.dc_cell.specs.declared.rows.Task.{Task}
use Rattle.dc_cell.specs.declared.titles.Column.TheVariants as col
use Rattle.dc_word.specs.declared.format.Format.{Format}
use Rattle.dc_sheet.specs.Texts.{IsSheetText, separator_of}
use Rattle.dc_sheet.specs.Places.{cell_at, is_titled, AreClear, AreInputPlaces, AreOutputPlaces}
use Rattle.dc_sheet.specs.declared.fault.Sheet.TheVariants.{Inputs, Outputs}
use Rattle.dc_sheet.specs.declared.places.InputPlaces.{InputPlaces}
use Rattle.dc_sheet.specs.declared.places.OutputPlaces.{OutputPlaces}
use Rattle.dc_sheet.specs.declared.places.TimePlace.{TimePlace}

-- ---- cells that may be empty

-- the microseconds of a cell under a title of times
abbrev pub time_at : (commas : Bool) → (least : ℕ) → (cells : List (List ℕ)) → TimePlace → Result ℕ CellFault
time_at commas least cells t = time_of t.unit commas least (cell_at cells t.place)

-- no jitter where the cell is empty
abbrev pub jitter_at : (commas : Bool) → (cells : List (List ℕ)) → TimePlace → Result ℕ CellFault
jitter_at commas cells t = if length (cell_at cells t.place) == 0 then Ok 0 else time_at commas 0 cells t

-- a value that may be left out
abbrev pub some_of : {A : Type 0} → Result A CellFault → Result (Option A) CellFault
some_of (Ok value) = Ok (Some value)
some_of (Err fault) = Err fault

abbrev pub time_if_any_at : (commas : Bool) → (cells : List (List ℕ)) → TimePlace → Result (Option ℕ) CellFault
time_if_any_at commas cells t = if length (cell_at cells t.place) == 0 then Ok None else some_of (time_at commas 1 cells t)

abbrev pub queue_if_any : List ℕ → Result (Option ℕ) CellFault
queue_if_any text = if length text == 0 then Ok None else some_of (queue_of text)

abbrev pub format_if_any : List ℕ → Result (Option Format) CellFault
format_if_any text = if length text == 0 then Ok None else some_of (format_of text)

-- ---- what a task surely does

-- one step where the cell is empty
abbrev pub steps_or_one : List ℕ → Result ℕ CellFault
steps_or_one text = if length text == 0 then Ok 1 else steps_of text

-- so many steps in any so many microseconds
abbrev pub task_of : (within steps : Result ℕ CellFault) → Result (Option Task) CellFault
task_of (Err fault) steps = Err fault
task_of (Ok us) (Err fault) = Err fault
task_of (Ok us) (Ok n) = Ok (Some (record { steps = n; within_us = us }))

-- nothing where both cells are empty; steps alone, without the time in which they are made, are a fault
abbrev pub task_at : (commas : Bool) → (cells : List (List ℕ)) → (steps : Option ℕ) → (within : TimePlace) → Result (Option Task) CellFault
task_at commas cells steps within =
    if length (cell_at cells within.place) == 0 then (if length (cell_at cells steps) == 0 then Ok None else Err NoWithin)
    else task_of (time_at commas 1 cells within) (steps_or_one (cell_at cells steps))

-- ---- one row

-- the row of the inputs with this number that these cells say
pub record IsInputRow (commas : Bool) (number : ℕ) (p : InputPlaces) (cells : List (List ℕ)) (row : InputRow) : Type 0 where
  pub number_is : row.row ≡ number
  pub bus : name_cell_of (cell_at cells p.bus) ≡ Ok row.bus
  pub speed : speed_of (cell_at cells p.speed) ≡ Ok row.speed
  pub label : label_of (cell_at cells p.label) ≡ Ok row.label
  pub equipment : equipment_of (cell_at cells p.equipment) ≡ Ok row.equipment
  pub format : format_of (cell_at cells p.format) ≡ Ok row.format
  pub min : time_at commas 1 cells p.min ≡ Ok row.min_us
  pub max : time_at commas 1 cells p.max ≡ Ok row.max_us
  pub ordered : row.min_us ≤ row.max_us
  pub sdi : input_sdi_of (cell_at cells p.sdi) ≡ Ok row.sdi
  pub jitter : jitter_at commas cells p.jitter ≡ Ok row.jitter_us
  pub police : police_of (cell_at cells p.police) ≡ Ok row.police
  pub queue : queue_if_any (cell_at cells p.queue) ≡ Ok row.queue
  pub router : name_if_any_of (cell_at cells p.router) ≡ Ok row.router
  pub task : task_at commas cells p.steps p.within ≡ Ok row.task
  pub name : name_if_any_of (cell_at cells p.name) ≡ Ok row.name

-- which titles are of sources
pub record AreSources (header : List (List ℕ)) (flags : List Bool) : Type 0 where
  pub all : length flags ≡ length header
  pub each : (k : ℕ) → k < length header → get_or flags k false ≡ is_titled col.Sources header k

-- what a cell adds to the names before it: its own where it stands under a title of sources, else nothing
abbrev pub AddsSources : (flags : List Bool) (cells : List (List ℕ)) (place : ℕ) (before names : List (List ℕ)) → Type 0
AddsSources flags cells place before names =
    MatchBool (get_or flags place false) (names_behind before [] (cell_at cells (Some place)) ≡ Some names) (names ≡ before)

-- the names of the first cells of a record that stand under a title of sources, where each part of them is one
unfoldable pub sources_before : (flags : List Bool) (cells : List (List ℕ)) → ℕ → Option (List (List ℕ))
sources_before flags cells zero = Some []
sources_before flags cells (suc k) =
    if get_or flags k false then option_and_then (λ names. names_behind names [] (cell_at cells (Some k))) (sources_before flags cells k)
    else sources_before flags cells k

-- the row of the outputs with this number that these cells say
pub record IsOutputRow (commas : Bool) (number : ℕ) (flags : List Bool) (p : OutputPlaces) (cells : List (List ℕ)) (row : OutputRow) : Type 0 where
  pub number_is : row.row ≡ number
  pub output : name_cell_of (cell_at cells p.output) ≡ Ok row.output
  pub speed : speed_of (cell_at cells p.speed) ≡ Ok row.speed
  pub label : label_of (cell_at cells p.label) ≡ Ok row.label
  pub equipment : equipment_of (cell_at cells p.equipment) ≡ Ok row.equipment
  pub format : format_if_any (cell_at cells p.format) ≡ Ok row.format
  pub min : time_at commas 1 cells p.min ≡ Ok row.min_us
  pub max : time_at commas 1 cells p.max ≡ Ok row.max_us
  pub ordered : row.min_us ≤ row.max_us
  pub sdi : output_sdi_of (cell_at cells p.sdi) ≡ Ok row.sdi
  pub name : name_if_any_of (cell_at cells p.name) ≡ Ok row.name
  pub sources : sources_before flags cells (length cells) ≡ Some row.sources.items
  pub max_age : time_if_any_at commas cells p.max_age ≡ Ok row.max_age_us
  pub timeout : time_if_any_at commas cells p.timeout ≡ Ok row.timeout_us
  pub task : task_at commas cells p.steps p.within ≡ Ok row.task

-- ---- all rows

-- an empty cell
abbrev pub is_empty_cell : List ℕ → Bool
is_empty_cell cell = length cell == 0

-- a record that is passed over: all its cells are empty, or its first begins with `#`
abbrev pub is_passed : (cells : List (List ℕ)) → Bool
is_passed cells = list_all is_empty_cell cells || slice_index (cell_at cells (Some 0)) 0 == 35

-- nothing stands behind the columns
abbrev pub is_within : (columns : ℕ) (cells : List (List ℕ)) → Bool
is_within columns cells = list_all is_empty_cell (drop columns cells)

-- the record at a place
abbrev pub record_at : (records : List (List (List ℕ))) → ℕ → List (List ℕ)
record_at [] k = []
record_at (cells ∷ more) zero = cells
record_at (cells ∷ more) (suc k) = record_at more k

-- what a record adds to the rows before it: its row, or nothing where it is passed over
abbrev pub AddsInput : (commas : Bool) (columns : ℕ) → InputPlaces → (number : ℕ) (cells : List (List ℕ)) (before rows : List InputRow) → Type 0
AddsInput commas columns p number cells before rows =
    MatchBool (is_passed cells) (rows ≡ before)
    ((is_within columns cells ≡ true) × ((row : InputRow) × IsInputRow commas number p cells row × (rows ≡ before ++ row ∷ [])))

abbrev pub AddsOutput : (commas : Bool) (columns : ℕ) (flags : List Bool) → OutputPlaces → (number : ℕ) (cells : List (List ℕ)) (before rows : List OutputRow) → Type 0
AddsOutput commas columns flags p number cells before rows =
    MatchBool (is_passed cells) (rows ≡ before)
    ((is_within columns cells ≡ true) × ((row : OutputRow) × IsOutputRow commas number flags p cells row × (rows ≡ before ++ row ∷ [])))

-- the rows that the first so many of these records say; they stand behind the header, so that the first is row 2
unfoldable pub InputsBefore : (commas : Bool) (columns : ℕ) → InputPlaces → (records : List (List (List ℕ))) → ℕ → List InputRow → Type 0
InputsBefore commas columns p records zero rows = rows ≡ []
InputsBefore commas columns p records (suc k) rows =
    (before : List InputRow) × InputsBefore commas columns p records k before × AddsInput commas columns p (k + 2) (record_at records k) before rows

unfoldable pub OutputsBefore : (commas : Bool) (columns : ℕ) (flags : List Bool) → OutputPlaces → (records : List (List (List ℕ))) → ℕ → List OutputRow → Type 0
OutputsBefore commas columns flags p records zero rows = rows ≡ []
OutputsBefore commas columns flags p records (suc k) rows =
    (before : List OutputRow) × OutputsBefore commas columns flags p records k before × AddsOutput commas columns flags p (k + 2) (record_at records k) before rows

-- the rows that the records of a sheet say, the first of which is its header
pub record SayInputs (commas : Bool) (all : List (List (List ℕ))) (rows : List InputRow) : Type 0 where
  pub header : List (List ℕ)
  pub records : List (List (List ℕ))
  pub places : InputPlaces
  pub begins : all ≡ header ∷ records
  pub clear : AreClear Inputs header
  pub stand : AreInputPlaces header places
  pub say : InputsBefore commas (length header) places records (length records) rows

pub record SayOutputs (commas : Bool) (all : List (List (List ℕ))) (rows : List OutputRow) : Type 0 where
  pub header : List (List ℕ)
  pub records : List (List (List ℕ))
  pub places : OutputPlaces
  pub flags : List Bool
  pub begins : all ≡ header ∷ records
  pub clear : AreClear Outputs header
  pub stand : AreOutputPlaces header places
  pub sources : AreSources header flags
  pub say : OutputsBefore commas (length header) flags places records (length records) rows

-- the rows of a text of inputs: those of the records behind its header, each cell under the first title of its column
pub record AreInputs (text : List ℕ) (rows : List InputRow) : Type 0 where
  pub records : List (List (List ℕ))
  pub read : IsSheetText (separator_of text) text records
  pub say : SayInputs (separator_of text == 44) records rows

-- the rows of a text of outputs
pub record AreOutputs (text : List ℕ) (rows : List OutputRow) : Type 0 where
  pub records : List (List (List ℕ))
  pub read : IsSheetText (separator_of text) text records
  pub say : SayOutputs (separator_of text == 44) records rows
