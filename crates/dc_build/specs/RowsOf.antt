-- The rows of a document's tables.
use Rattle.std.specs.Prelude.{◌≡◌, ℕ, suc, ◌<◌, ◌==◌, nat_lt, unwrap_or, List, [], ◌∷◌, length, map, filter, count_by, position, slice_index_or}
use Rattle.std.specs.Option.{option_map_or}
use Rattle.std.specs.List.Sorted.{IsPermutation, IsNonDecreasingBy}
use Rattle.dc_word.specs.declared.format.Format.TheVariants.{Bnr}
use Rattle.dc_tables.specs.declared.rows.Bus.{Bus}
use Rattle.dc_tables.specs.declared.rows.Stream.{Stream}
use Rattle.dc_tables.specs.declared.rows.Router.{Router}
use Rattle.dc_tables.specs.declared.rows.Output.{Output}
use Rattle.dc_tables.specs.declared.rows.Entry.{Entry}
use Rattle.dc_tables.specs.declared.rows.OutputLabel.{OutputLabel}
use Rattle.dc_rules.specs.declared.keys.PlacedEntry.{PlacedEntry}
use Rattle.dc_dict.specs.declared.parameter.Parameter.{Parameter as ParameterPart}
use Rattle.dc_document.specs.declared.parts.BusPart.{BusPart}
use Rattle.dc_document.specs.declared.parts.StreamPart.{StreamPart}
use Rattle.dc_document.specs.declared.parts.RouterPart.{RouterPart}
use Rattle.dc_document.specs.declared.parts.OutputPart.{OutputPart}
use Rattle.dc_document.specs.declared.parts.LabelPart.{LabelPart}
use Rattle.dc_document.specs.Document.{Document, stream_owners}
use Rattle.dc_dict.specs.Ticks.{in_minimum, in_maximum, out_minimum, out_maximum, jitter_ticks}
use Rattle.dc_document.specs.Ticks.{output_gap, input_spacing}
use Rattle.dc_rules.specs.Rules.{parameter_of, visits_bus, entries_from, bus_names, stream_names, router_names, output_names, label_names}
use Rattle.dc_document.specs.Keys.{stream_key, label_key}
use Rattle.dc_document.specs.Names.{number_of}
use Rattle.dc_tables.specs.TableNames.{TableNames}
use Rattle.dc_tables.specs.TableRows.{TableRows, output_row}

-- a bus with these streams and this router
abbrev pub bus_row_with : (first streams router : ℕ) → BusPart → Bus
bus_row_with first streams router part = record {
  queue = part.queue;
  police = part.police;
  spacing = input_spacing part.speed;
  first = first;
  streams = streams;
  router = router;
}

-- its streams are those of its number, after those of the buses before it; a router visits it
abbrev pub bus_row_of : List ℕ → List RouterPart → ℕ → BusPart → Bus
bus_row_of owners routers b part =
    bus_row_with (count_by (λ o. nat_lt o b) owners) (count_by (λ o. o == b) owners) (unwrap_or (position (visits_bus part.name) routers) 0) part

-- the rows of buses, the first of which has this number
abbrev pub bus_rows_from : List ℕ → List RouterPart → ℕ → List BusPart → List Bus
bus_rows_from owners routers b [] = []
bus_rows_from owners routers b (x ∷ xs) = bus_row_of owners routers b x ∷ bus_rows_from owners routers (suc b) xs

-- a stream: its parameter's format, its parameter's interval and its jitter in ticks
abbrev pub stream_row_of : (tick : ℕ) → List ParameterPart → StreamPart → Stream
stream_row_of tick parameters s = record {
  bus = s.bus;
  label = s.label;
  sdi = s.sdi;
  format = option_map_or (λ p. p.format) (parameter_of parameters (stream_key s)) Bnr;
  minimum = option_map_or (λ p. in_minimum p.min_us tick) (parameter_of parameters (stream_key s)) 0;
  maximum = option_map_or (λ p. in_maximum p.max_us tick) (parameter_of parameters (stream_key s)) 0;
  jitter = jitter_ticks s.jitter_us tick;
}

-- the number of a name
abbrev pub number_in : List (List ℕ) → List ℕ → ℕ
number_in names n = unwrap_or (number_of names n) 0

-- the row of a router: it visits buses by number, in the order in which the text names them
abbrev pub router_row_of : List (List ℕ) → RouterPart → Router
router_row_of buses r = record { steps = r.steps; within = r.within; most = r.most; visits = map (number_in buses) r.visits.items }

-- a label: its parameter's format, and the interval that it leaves to an output
abbrev pub label_row_of : (tick : ℕ) → List ParameterPart → List (List ℕ) → LabelPart → OutputLabel
label_row_of tick parameters streams x = record {
  output = x.output;
  label = x.label;
  sdi = x.sdi;
  format = option_map_or (λ p. p.format) (parameter_of parameters (label_key x)) Bnr;
  sources = map (number_in streams) x.sources.items;
  stale = x.stale;
  age_limit = x.age;
  minimum = option_map_or (λ p. out_minimum p.min_us tick) (parameter_of parameters (label_key x)) 0;
  maximum = option_map_or (λ p. out_maximum p.max_us tick) (parameter_of parameters (label_key x)) 0;
}

-- an entry without its output
abbrev pub entry_of : PlacedEntry → Entry
entry_of e = record { offset = e.offset; label = e.label }

-- the entries of the output of this number, in the order of the text
abbrev pub own_entries : List PlacedEntry → ℕ → List Entry
own_entries entries o = map entry_of (filter (λ e. e.output == o) entries)

-- entries in ascending order of offset
pub record IsFrameOf (all : List PlacedEntry) (o : ℕ) (frame : List Entry) : Type 0 where
  pub same : IsPermutation (own_entries all o) frame
  pub ascend : IsNonDecreasingBy (λ e. e.offset) frame

-- an output: its entries are those of its labels
pub record IsOutputRow (tick : ℕ) (all : List PlacedEntry) (o : ℕ) (part : OutputPart) (row : Output) : Type 0 where
  pub steps : row.steps ≡ part.steps
  pub within : row.within ≡ part.within
  pub gap : row.gap ≡ output_gap tick part.speed
  pub frame : row.frame ≡ part.frame
  pub entries : IsFrameOf all o row.entries

-- the first n rows of the outputs are there
pub record AreOutputs (tick : ℕ) (all : List PlacedEntry) (parts : List OutputPart) (n : ℕ) (rows : List Output) : Type 0 where
  pub there : length rows ≡ n
  pub each : (o : ℕ) (e : OutputPart) → o < n → IsOutputRow tick all o (slice_index_or parts o e) (slice_index_or rows o (record { steps = 0; within = 0; gap = 0; frame = 0; entries = [] }))

-- the names of a document's tables
abbrev pub names_of : Document → TableNames
names_of d = record {
  buses = bus_names d;
  streams = stream_names d;
  routers = router_names d;
  outputs = output_names d;
  labels = label_names d;
}

-- the rows of a document
pub record AreRows (d : Document) (t : TableRows) : Type 0 where
  pub tick : t.tick_us ≡ d.tick_us
  pub buses : t.buses ≡ bus_rows_from (stream_owners d) d.routers 0 d.buses
  pub streams : t.streams ≡ map (stream_row_of d.tick_us d.parameters) d.streams
  pub routers : t.routers ≡ map (router_row_of (bus_names d)) d.routers
  pub outputs_there : length t.outputs ≡ length d.outputs
  pub outputs : (o : ℕ) (e : OutputPart) → o < length d.outputs → IsOutputRow d.tick_us (entries_from 0 d.labels) o (slice_index_or d.outputs o e) (output_row t o)
  pub labels : t.labels ≡ map (label_row_of d.tick_us d.parameters (stream_names d)) d.labels
  pub names : t.names ≡ names_of d
