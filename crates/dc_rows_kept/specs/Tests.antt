-- What keeps the rows of the sheets, as tests.
use Rattle.std.specs.Prelude.{ℕ, ◌+◌, ◌*◌, nat_eq, nat_le, Bool, true, false, not, ◌&&◌, ◌||◌, ◌==◌, List, Option, Some, None, slice_get}
use Rattle.std.specs.List.{list_all, list_any}
use Rattle.std.specs.Option.{option_eq}
use Rattle.std.specs.Cmp.Lexicographic.{pointwise}
use Rattle.std.specs.Str.{bytes_eq}
use Rattle.dc_cell.specs.declared.rows.InputRow.{InputRow}
use Rattle.dc_cell.specs.declared.rows.OutputRow.{OutputRow}
use Rattle.dc_cell.specs.declared.rows.Task.{Task}
use Rattle.dc_dict.specs.Rows.{row_of}
use Rattle.dc_dict.specs.declared.parameter.Parameter.{Parameter as ParameterPart}
use Rattle.dc_document.specs.Document.{Document}
use Rattle.dc_document.specs.declared.parts.BusPart.{BusPart}
use Rattle.dc_document.specs.declared.parts.StreamPart.{StreamPart}
use Rattle.dc_document.specs.declared.parts.OutputPart.{OutputPart}
use Rattle.dc_document.specs.declared.parts.RouterPart.{RouterPart}
use Rattle.dc_document.specs.declared.parts.LabelPart.{LabelPart}
use Rattle.dc_document.specs.declared.parts.Speed.{Speed}
use Rattle.dc_document.specs.declared.parts.Speed.TheVariants.{High, Low}
use Rattle.dc_word.specs.declared.format.Format.{Format}
use Rattle.dc_word.specs.declared.format.Format.TheVariants.{Bnr, Bcd, Disc}

-- there is something, and it passes
abbrev pub some_passes : {T : Type 0} → (T → Bool) → Option T → Bool
some_passes test None = false
some_passes test (Some x) = test x

-- what is there passes, if something is
abbrev pub passes_if_some : {T : Type 0} → (T → Bool) → Option T → Bool
passes_if_some test None = true
passes_if_some test (Some x) = test x

-- of one speed
abbrev pub same_speed : Speed → Speed → Bool
same_speed High High = true
same_speed Low Low = true
same_speed High Low = false
same_speed Low High = false

-- of one format
abbrev pub is_format : Format → Format → Bool
is_format Bnr Bnr = true
is_format Bcd Bcd = true
is_format Disc Disc = true
is_format Bnr Bcd = false
is_format Bnr Disc = false
is_format Bcd Bnr = false
is_format Bcd Disc = false
is_format Disc Bnr = false
is_format Disc Bcd = false

-- ---- what a task surely does

abbrev pub asks_no_more : (tick steps within : ℕ) → Task → Bool
asks_no_more tick steps within task = nat_le steps task.steps && nat_le task.within_us (within * tick)

-- a router visits a bus of this name
abbrev pub visits : (bus : List ℕ) → RouterPart → Bool
visits bus r = list_any (λ name. bytes_eq name bus) r.visits.items

-- it does not visit the bus, or asks no more of its task
abbrev pub router_asks_no_more : (tick : ℕ) (bus : List ℕ) → Task → RouterPart → Bool
router_asks_no_more tick bus task r = not (visits bus r) || asks_no_more tick r.steps r.within task

abbrev pub routers_ask_no_more : Document → (bus : List ℕ) → Task → Bool
routers_ask_no_more d bus task = list_all (router_asks_no_more d.tick_us bus task) d.routers

-- ---- a row of the inputs

abbrev pub is_stream_of : InputRow → StreamPart → BusPart → Bool
is_stream_of row s b = bytes_eq b.name row.bus && s.label == row.label && option_eq nat_eq s.sdi row.sdi && passes_if_some (bytes_eq s.name) row.name

abbrev pub is_bus_of : InputRow → BusPart → Bool
is_bus_of row b = same_speed b.speed row.speed && (not row.police || b.police) && passes_if_some (nat_le b.queue) row.queue

abbrev pub lets_come : InputRow → StreamPart → ParameterPart → Bool
lets_come row s p =
    s.equipment == row.equipment && is_format p.format row.format && nat_le p.min_us row.min_us && nat_le row.max_us p.max_us && nat_le row.jitter_us s.jitter_us

abbrev pub keeps_input : Document → InputRow → StreamPart → Bool
keeps_input d row s =
    some_passes (λ b. is_stream_of row s b && is_bus_of row b) (slice_get d.buses s.bus) && some_passes (lets_come row s) (row_of d.parameters s.label s.equipment)
    && passes_if_some (routers_ask_no_more d row.bus) row.task

abbrev pub has_stream : Document → InputRow → Bool
has_stream d row = list_any (keeps_input d row) d.streams

-- ---- a row of the outputs

abbrev pub is_label_of : OutputRow → LabelPart → OutputPart → Bool
is_label_of row x o =
    bytes_eq o.name row.output && same_speed o.speed row.speed && x.label == row.label && x.sdi == row.sdi && passes_if_some (bytes_eq x.name) row.name

-- and its output asks no more of its task than the row says
abbrev pub is_of_output : (tick : ℕ) → OutputRow → LabelPart → OutputPart → Bool
is_of_output tick row x o = is_label_of row x o && passes_if_some (asks_no_more tick o.steps o.within) row.task

abbrev pub sends_within : OutputRow → LabelPart → ParameterPart → Bool
sends_within row x p = x.equipment == row.equipment && passes_if_some (is_format p.format) row.format && nat_le row.min_us p.min_us && nat_le p.max_us row.max_us

-- the same names in the same order
abbrev pub same_names : List (List ℕ) → List (List ℕ) → Bool
same_names = pointwise bytes_eq

abbrev pub sends_data : ℕ → OutputRow → LabelPart → Bool
sends_data tick row x =
    same_names x.sources.items row.sources.items && passes_if_some (nat_le ((x.age + 1) * tick)) row.max_age_us && passes_if_some (nat_le (x.stale * tick)) row.timeout_us

abbrev pub keeps_output : Document → OutputRow → LabelPart → Bool
keeps_output d row x =
    some_passes (is_of_output d.tick_us row x) (slice_get d.outputs x.output) && some_passes (sends_within row x) (row_of d.parameters x.label x.equipment) && sends_data d.tick_us row x

abbrev pub has_label : Document → OutputRow → Bool
has_label d row = list_any (keeps_output d row) d.labels
