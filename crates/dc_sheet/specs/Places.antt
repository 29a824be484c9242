-- Where the columns of a sheet stand.
use Rattle.std.specs.Prelude.{◌≡◌, ℕ, ◌<◌, Bool, true, false, List, [], length, Option, Some, None, unwrap_or}
use Rattle.csv.specs.Records.{field_at}
use Rattle.dc_cell.specs.Strays.{is_clear_input, is_clear_output}
use Rattle.dc_cell.specs.Titles.{is_title, key_of, unit_of}
use Rattle.dc_cell.specs.declared.titles.Column.{Column}
use Rattle.dc_cell.specs.declared.titles.Column.TheVariants as col
use Rattle.dc_sheet.specs.declared.fault.Sheet.{Sheet}
use Rattle.dc_sheet.specs.declared.fault.Sheet.TheVariants.{Inputs, Outputs}
use Rattle.dc_sheet.specs.declared.places.InputPlaces.{InputPlaces}
use Rattle.dc_sheet.specs.declared.places.OutputPlaces.{OutputPlaces}
use Rattle.dc_sheet.specs.declared.places.TimePlace.{TimePlace}

-- the cell at a place, empty where the record has none there or there is no such column
abbrev pub cell_at : List (List ℕ) → Option ℕ → List ℕ
cell_at cells None = []
cell_at cells (Some place) = unwrap_or (field_at cells place) []

-- whether the title at a place is one of this column
abbrev pub is_titled : Column → (header : List (List ℕ)) → ℕ → Bool
is_titled column header place = is_title column (key_of (cell_at header (Some place)))

-- the first title of a column, or that there is none
abbrev pub IsPlace : Column → (header : List (List ℕ)) → Option ℕ → Type 0
IsPlace column header None = (other : ℕ) → other < length header → is_titled column header other ≡ false
IsPlace column header (Some place) = (place < length header) × (is_titled column header place ≡ true) × ((other : ℕ) → other < place → is_titled column header other ≡ false)

-- the place of a time, with the unit of its title
abbrev pub IsTimePlace : Column → (header : List (List ℕ)) → TimePlace → Type 0
IsTimePlace column header t = IsPlace column header t.place × (t.unit ≡ unit_of (key_of (cell_at header t.place)))

-- a title of a sheet is read, or no column of it can be meant by the title
abbrev pub is_clear : Sheet → (key : List ℕ) → Bool
is_clear Inputs key = is_clear_input key
is_clear Outputs key = is_clear_output key

-- so is each title of a sheet
abbrev pub AreClear : Sheet → (header : List (List ℕ)) → Type 0
AreClear sheet header = (place : ℕ) → place < length header → is_clear sheet (key_of (cell_at header (Some place))) ≡ true

-- where the columns of the inputs stand
pub record AreInputPlaces (header : List (List ℕ)) (p : InputPlaces) : Type 0 where
  pub bus : IsPlace col.Bus header p.bus
  pub speed : IsPlace col.Speed header p.speed
  pub label : IsPlace col.Label header p.label
  pub equipment : IsPlace col.Equipment header p.equipment
  pub format : IsPlace col.Format header p.format
  pub min : IsTimePlace col.Min header p.min
  pub max : IsTimePlace col.Max header p.max
  pub sdi : IsPlace col.Sdi header p.sdi
  pub jitter : IsTimePlace col.Jitter header p.jitter
  pub police : IsPlace col.Police header p.police
  pub queue : IsPlace col.Queue header p.queue
  pub router : IsPlace col.Router header p.router
  pub steps : IsPlace col.Steps header p.steps
  pub within : IsTimePlace col.Within header p.within
  pub name : IsPlace col.Name header p.name

-- where the columns of the outputs stand, but those of the sources, of which there may be several
pub record AreOutputPlaces (header : List (List ℕ)) (p : OutputPlaces) : Type 0 where
  pub output : IsPlace col.Output header p.output
  pub speed : IsPlace col.Speed header p.speed
  pub label : IsPlace col.Label header p.label
  pub equipment : IsPlace col.Equipment header p.equipment
  pub format : IsPlace col.Format header p.format
  pub min : IsTimePlace col.Min header p.min
  pub max : IsTimePlace col.Max header p.max
  pub sdi : IsPlace col.Sdi header p.sdi
  pub name : IsPlace col.Name header p.name
  pub max_age : IsTimePlace col.MaxAge header p.max_age
  pub timeout : IsTimePlace col.Timeout header p.timeout
  pub steps : IsPlace col.Steps header p.steps
  pub within : IsTimePlace col.Within header p.within
