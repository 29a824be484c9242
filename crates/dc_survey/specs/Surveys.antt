-- What a survey tells of a capture.
use Rattle.std.specs.Prelude.{◌≡◌, ℕ, ◌<◌, ◌≤◌, List, length, count_by, slice_index_or}
use Rattle.dc_bound.specs.Window.{ticks_of}
use Rattle.dc_bound.specs.Turns.{NeverFall}
use Rattle.dc_tables.specs.TableRows.{TableRows, bus_row}
use Rattle.dc_gauge.specs.Gauges.{IsStreamGauge, IsWireGauge}
use Rattle.dc_gauge.specs.Steps.{no_stream_words, no_wire_words}
use Rattle.dc_gauge.specs.declared.stream.StreamGauge.{StreamGauge}
use Rattle.dc_gauge.specs.declared.timing.StreamTiming.{StreamTiming}
use Rattle.dc_survey.specs.Known.{AreKnown}
use Rattle.dc_survey.specs.Captures.{picked, of_stream, offered_on, even_on, undeclared_on}
use Rattle.dc_survey.specs.declared.bus_gauge.BusGauge.{BusGauge}
use Rattle.dc_survey.specs.declared.survey.Survey.{Survey}

-- no timing, where there is no such stream
abbrev pub no_timing : StreamTiming
no_timing = record { min_us = 0; max_us = 0; jitter_us = 0 }

-- a bus on which no word came
abbrev pub no_bus_words : BusGauge
no_bus_words = record { wire = no_wire_words; parity = 0; undeclared = 0 }

-- the timing that a stream declares
abbrev pub timing_of : Survey → ℕ → StreamTiming
timing_of w s = slice_index_or w.timings.items s no_timing

-- the numbers of a stream, and of a bus
abbrev pub stream_gauge : Survey → ℕ → StreamGauge
stream_gauge w s = slice_index_or w.streams.items s no_stream_words

abbrev pub bus_gauge : Survey → ℕ → BusGauge
bus_gauge w b = slice_index_or w.buses.items b no_bus_words

-- a part for each stream and each bus of the tables, and what is known of them
pub record IsSized (t : TableRows) (w : Survey) : Type 0 where
  pub timings : length w.timings.items ≡ length t.streams
  pub streams : length w.streams.items ≡ length t.streams
  pub buses : length w.buses.items ≡ length t.buses
  pub timed : (s : ℕ) → s < length t.streams → 1 ≤ (timing_of w s).min_us
  pub known : AreKnown t w.known

-- the numbers of a bus: of its words that are offered to a stream, of its even ones, of its undeclared ones
pub record IsBusGauge (t : TableRows) (b : ℕ) (capture : List (ℕ × (ℕ × ℕ))) (g : BusGauge) : Type 0 where
  pub wire : IsWireGauge (bus_row t b).spacing (picked (offered_on t b) capture) g.wire
  pub parity : g.parity ≡ count_by (even_on b) capture
  pub undeclared : g.undeclared ≡ count_by (undeclared_on t b) capture

-- the numbers of each stream and each bus, over the whole capture
pub record Surveys (t : TableRows) (capture : List (ℕ × (ℕ × ℕ))) (w : Survey) : Type 0 where
  pub order : NeverFall (ticks_of capture)
  pub line : w.line ≡ length capture
  pub streams : (s : ℕ) → s < length t.streams → IsStreamGauge (timing_of w s) (picked (of_stream t s) capture) (stream_gauge w s)
  pub buses : (b : ℕ) → b < length t.buses → IsBusGauge t b capture (bus_gauge w b)

-- there are n items, and each is f of its number
abbrev pub AllMade : {X : Type 0} → (ℕ → X) → X → ℕ → List X → Type 0
AllMade f none n xs = (length xs ≡ n) × ((k : ℕ) → k < n → slice_index_or xs k none ≡ f k)
