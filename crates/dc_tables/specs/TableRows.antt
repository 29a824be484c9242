-- The tables as rows. Streams and labels are numbered through the whole document; a row names its owner by number.
-- Ticks are rounded once, when the tables are built.
use Rattle.std.specs.Prelude.{◌≡◌, ℕ, Bool, false, cond, ◌+◌, ◌*◌, ◌/◌, ◌%◌, ◌<◌, ◌≤◌, ◌==◌, min, List, [], length, take, drop, map, count_by, slice_index, slice_index_or, None}
use Rattle.std.specs.List.{sum_by}
use Rattle.dc_bound.specs.Window.{wire_cap}
use Rattle.dc_bound.specs.Early.{jitter_cap}
use Rattle.dc_bound.specs.Rounds.{fewest_visits, most_among}
use Rattle.dc_bound.specs.Frame.{entries_at}
use Rattle.dc_tables.specs.declared.rows.Bus.{Bus}
use Rattle.dc_tables.specs.declared.rows.Stream.{Stream}
use Rattle.dc_tables.specs.declared.rows.Router.{Router}
use Rattle.dc_tables.specs.declared.rows.Output.{Output}
use Rattle.dc_tables.specs.declared.rows.Entry.{Entry}
use Rattle.dc_tables.specs.declared.rows.OutputLabel.{OutputLabel}
use Rattle.dc_word.specs.declared.format.Format.TheVariants.{Bnr}
use Rattle.dc_tables.specs.Sdis.{sdis_meet}
use Rattle.dc_tables.specs.TableNames.{TableNames}
use Rattle.dc_bound.specs.declared.limits.TheConstants.{GREATEST_QUEUE, LONGEST_FRAME, LONGEST_TICK, MOST_ENTRIES}
use Rattle.dc_document.specs.declared.limits.TheConstants.{GREATEST_AGE, GREATEST_JITTER, LONGEST_INTERVAL, LONGEST_STALE, LONGEST_WITHIN, MOST_BUSES, MOST_LABELS, MOST_MEMBERS, MOST_OUTPUTS, MOST_ROUTERS, MOST_SOURCES, MOST_STEPS, MOST_STREAMS, MOST_VISITS, SHORTEST_TICK}

-- the length of a tick in microseconds, and the rows and names of all lists
pub record TableRows : Type 0 where
  pub tick_us : ℕ
  pub buses : List Bus
  pub streams : List Stream
  pub routers : List Router
  pub outputs : List Output
  pub labels : List OutputLabel
  pub names : TableNames

-- ---- the row of a number

-- the bus of this number
abbrev pub bus_row : TableRows → ℕ → Bus
bus_row t b = slice_index_or t.buses b (record { queue = 0; police = false; spacing = 0; first = 0; streams = 0; router = 0 })

-- the stream of this number, counted through all buses
abbrev pub stream_row : TableRows → ℕ → Stream
stream_row t s = slice_index_or t.streams s (record { bus = 0; label = 0; sdi = None; format = Bnr; minimum = 0; maximum = 0; jitter = 0 })

-- the router of this number
abbrev pub router_row : TableRows → ℕ → Router
router_row t r = slice_index_or t.routers r (record { steps = 0; within = 0; most = 0; visits = [] })

-- the output of this number
abbrev pub output_row : TableRows → ℕ → Output
output_row t o = slice_index_or t.outputs o (record { steps = 0; within = 0; gap = 0; frame = 0; entries = [] })

-- the label of this number, counted through all outputs
abbrev pub label_row : TableRows → ℕ → OutputLabel
label_row t x = slice_index_or t.labels x (record { output = 0; label = 0; sdi = 0; format = Bnr; sources = []; stale = 0; age_limit = 0; minimum = 0; maximum = 0 })

-- the entry of the output's frame
abbrev pub entry_row : TableRows → ℕ → ℕ → Entry
entry_row t o n = slice_index_or (output_row t o).entries n (record { offset = 0; label = 0 })

-- the streams of a bus
abbrev pub bus_streams : TableRows → ℕ → List Stream
bus_streams t b = take (bus_row t b).streams (drop (bus_row t b).first t.streams)

-- the bus that the router's step of this number, from 0, visits
abbrev pub visited : TableRows → ℕ → ℕ → ℕ
visited t r n = slice_index_or (router_row t r).visits (n % length (router_row t r).visits) 0

-- ---- validity

-- what every Tables meets
pub record AreValid (t : TableRows) : Type 0 where
  -- sizes
  pub ticks_short : t.tick_us ≤ LONGEST_TICK
  pub ticks_some : SHORTEST_TICK ≤ t.tick_us
  pub few_buses : length t.buses ≤ MOST_BUSES
  pub few_routers : length t.routers ≤ MOST_ROUTERS
  pub few_outputs : length t.outputs ≤ MOST_OUTPUTS
  pub few_streams : length t.streams ≤ MOST_STREAMS
  pub few_labels : length t.labels ≤ MOST_LABELS
  -- buses: a bus has its streams in one piece, and its router visits it, no other
  pub queues_some : (b : ℕ) → b < length t.buses → 1 ≤ (bus_row t b).queue
  pub queues_small : (b : ℕ) → b < length t.buses → (bus_row t b).queue ≤ GREATEST_QUEUE
  pub spacings : (b : ℕ) → b < length t.buses → 1 ≤ (bus_row t b).spacing
  pub bus_streams_some : (b : ℕ) → b < length t.buses → 1 ≤ (bus_row t b).streams
  pub few_bus_streams : (b : ℕ) → b < length t.buses → (bus_row t b).streams ≤ MOST_MEMBERS
  pub streams_there : (b : ℕ) → b < length t.buses → (bus_row t b).first + (bus_row t b).streams ≤ length t.streams
  pub streams_of_bus : (b s : ℕ) → b < length t.buses → s < length t.streams → (stream_row t s).bus ≡ b → ((bus_row t b).first ≤ s) × (s < (bus_row t b).first + (bus_row t b).streams)
  pub bus_of_streams : (b s : ℕ) → b < length t.buses → (bus_row t b).first ≤ s → s < (bus_row t b).first + (bus_row t b).streams → (stream_row t s).bus ≡ b
  pub routers_of_buses : (b : ℕ) → b < length t.buses → (bus_row t b).router < length t.routers
  pub visited_by_one : (b r n : ℕ) → b < length t.buses → r < length t.routers → visited t r n ≡ b → r ≡ (bus_row t b).router
  pub buses_visited : (b : ℕ) → b < length t.buses → (n : ℕ) × (visited t (bus_row t b).router n ≡ b)
  -- streams
  pub streams_on_buses : (s : ℕ) → s < length t.streams → (stream_row t s).bus < length t.buses
  pub minimums : (s : ℕ) → s < length t.streams → 1 ≤ (stream_row t s).minimum
  pub maximums : (s : ℕ) → s < length t.streams → (stream_row t s).minimum ≤ (stream_row t s).maximum
  pub maximums_small : (s : ℕ) → s < length t.streams → (stream_row t s).maximum ≤ LONGEST_INTERVAL
  pub jitters_small : (s : ℕ) → s < length t.streams → (stream_row t s).jitter ≤ GREATEST_JITTER
  -- no two of one bus declare the same words
  pub streams_apart : (s u : ℕ) → u < s → s < length t.streams → (stream_row t s).bus ≡ (stream_row t u).bus → (stream_row t s).label ≡ (stream_row t u).label → sdis_meet (stream_row t s).sdi (stream_row t u).sdi ≡ false
  -- routers
  pub visits_there : (r : ℕ) → r < length t.routers → 0 < length (router_row t r).visits
  pub few_visits : (r : ℕ) → r < length t.routers → length (router_row t r).visits ≤ MOST_VISITS
  pub visits_on_buses : (r n : ℕ) → r < length t.routers → slice_index_or (router_row t r).visits n 0 < length t.buses
  pub routers_step : (r : ℕ) → r < length t.routers → (1 ≤ (router_row t r).steps) × (1 ≤ (router_row t r).most)
  pub routers_paced : (r : ℕ) → r < length t.routers → 1 ≤ (router_row t r).within
  pub routers_small : (r : ℕ) → r < length t.routers → ((router_row t r).within ≤ LONGEST_WITHIN) × ((router_row t r).most ≤ MOST_STEPS)
  pub routers_steps_small : (r : ℕ) → r < length t.routers → (router_row t r).steps ≤ MOST_STEPS
  pub routers_able : (r : ℕ) → r < length t.routers → (router_row t r).steps ≤ (router_row t r).most * (router_row t r).within
  -- outputs
  pub outputs_step : (o : ℕ) → o < length t.outputs → 1 ≤ (output_row t o).steps
  pub outputs_steps_small : (o : ℕ) → o < length t.outputs → (output_row t o).steps ≤ MOST_STEPS
  pub outputs_paced : (o : ℕ) → o < length t.outputs → 1 ≤ (output_row t o).within
  pub outputs_small : (o : ℕ) → o < length t.outputs → (output_row t o).within ≤ LONGEST_WITHIN
  pub gaps_some : (o : ℕ) → o < length t.outputs → 1 ≤ (output_row t o).gap
  pub outputs_able : (o : ℕ) → o < length t.outputs → (output_row t o).steps * (output_row t o).gap ≤ (output_row t o).within
  pub frames : (o : ℕ) → o < length t.outputs → 1 ≤ (output_row t o).frame
  pub frames_short : (o : ℕ) → o < length t.outputs → (output_row t o).frame ≤ LONGEST_FRAME
  -- entries: in order of offset, and each label has one
  pub entries_some : (o : ℕ) → o < length t.outputs → 1 ≤ length (output_row t o).entries
  pub few_entries : (o : ℕ) → o < length t.outputs → length (output_row t o).entries ≤ MOST_ENTRIES
  pub entries_ascend : (o i j : ℕ) → o < length t.outputs → i < j → j < length (output_row t o).entries → (entry_row t o i).offset < (entry_row t o j).offset
  pub entries_in_frame : (o i : ℕ) → o < length t.outputs → i < length (output_row t o).entries → (entry_row t o i).offset < (output_row t o).frame
  pub entries_labelled : (o i : ℕ) → o < length t.outputs → i < length (output_row t o).entries → ((entry_row t o i).label < length t.labels) × ((label_row t (entry_row t o i).label).output ≡ o)
  -- labels: those of an output differ in label or SDI, and the sources of one differ and have its format
  pub labels_apart : (x y : ℕ) → x < length t.labels → y < length t.labels → (label_row t x).output ≡ (label_row t y).output → (label_row t x).label ≡ (label_row t y).label → (label_row t x).sdi ≡ (label_row t y).sdi → x ≡ y
  pub few_output_labels : (o : ℕ) → o < length t.outputs → count_by (λ x. x.output == o) t.labels ≤ MOST_MEMBERS
  pub labels_on_outputs : (x : ℕ) → x < length t.labels → (label_row t x).output < length t.outputs
  pub labels_in_frames : (x : ℕ) → x < length t.labels → (i : ℕ) × (i < length (output_row t (label_row t x).output).entries) × ((entry_row t (label_row t x).output i).label ≡ x)
  pub labels_fit : (x : ℕ) → x < length t.labels → ((label_row t x).label < 256) × ((label_row t x).sdi < 4)
  pub sources_some : (x : ℕ) → x < length t.labels → 1 ≤ length (label_row t x).sources
  pub few_sources : (x : ℕ) → x < length t.labels → length (label_row t x).sources ≤ MOST_SOURCES
  pub sources_once : (x i j : ℕ) → x < length t.labels → i < length (label_row t x).sources → j < length (label_row t x).sources → slice_index (label_row t x).sources i ≡ slice_index (label_row t x).sources j → i ≡ j
  pub sources_there : (x k : ℕ) → x < length t.labels → k < length (label_row t x).sources → slice_index (label_row t x).sources k < length t.streams
  pub sources_alike : (x k : ℕ) → x < length t.labels → k < length (label_row t x).sources → (stream_row t (slice_index (label_row t x).sources k)).format ≡ (label_row t x).format
  pub stales : (x : ℕ) → x < length t.labels → (1 ≤ (label_row t x).stale) × ((label_row t x).stale ≤ LONGEST_STALE)
  pub limits : (x : ℕ) → x < length t.labels → (1 ≤ (label_row t x).age_limit) × ((label_row t x).age_limit ≤ GREATEST_AGE)
  pub intervals : (x : ℕ) → x < length t.labels → (label_row t x).minimum ≤ (label_row t x).maximum
  pub intervals_small : (x : ℕ) → x < length t.labels → (label_row t x).maximum ≤ LONGEST_INTERVAL

-- ---- bounds of a bus and of an output

-- whether the bus refuses early words
abbrev pub is_policed : TableRows → ℕ → Bool
is_policed t b = (bus_row t b).police

-- the most arrivals of a stream in d ticks
abbrev pub stream_cap : ℕ → Stream → ℕ
stream_cap d row = jitter_cap row.minimum row.jitter d

-- the most arrivals of all streams of a bus in d ticks
abbrev pub streams_cap : TableRows → ℕ → ℕ → ℕ
streams_cap t b d = sum_by (stream_cap d) (bus_streams t b)

-- the most arrivals of a bus in d ticks: its streams', where it is policed; else the lesser of its streams' and its wire's
unfoldable pub bus_cap : TableRows → ℕ → ℕ → ℕ
bus_cap t b d = cond (is_policed t b) (streams_cap t b d) (min (streams_cap t b d) (wire_cap t.tick_us (bus_row t b).spacing d))

-- the fewest visits of a bus in d whole ticks
unfoldable pub bus_floor : TableRows → ℕ → ℕ → ℕ
bus_floor t b d =
    let row = router_row t (bus_row t b).router in
    fewest_visits row.visits b (row.steps * (d / row.within))

-- the ticks of a frame in which the output's entries are due
abbrev pub offsets : TableRows → ℕ → List ℕ
offsets t o = map (λ e. e.offset) (output_row t o).entries

-- the most entries due in d consecutive ticks
unfoldable pub output_cap : TableRows → ℕ → ℕ → ℕ
output_cap t o d = most_among (λ i. entries_at (offsets t o) i) (output_row t o).frame d

-- the fewest sends of an output in d whole ticks
abbrev pub output_floor : TableRows → ℕ → ℕ → ℕ
output_floor t o d = (output_row t o).steps * (d / (output_row t o).within)
