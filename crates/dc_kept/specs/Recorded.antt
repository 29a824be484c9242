-- The capture that a timed run leaves, and when a capture keeps what is declared.
use Rattle.std.specs.Prelude.{◌≡◌, ℕ, ◌<◌, ◌⊎◌, false, List, length}
use Rattle.dc_event.specs.declared.event.Event.{Event}
use Rattle.dc_gauge.specs.declared.timing.StreamTiming.{StreamTiming}
use Rattle.dc_survey.specs.States.{IsPaceState, IsWireState}
use Rattle.dc_survey.specs.declared.states.PaceState.TheVariants.{Kept as PaceKept, Silent}
use Rattle.dc_survey.specs.declared.states.WireState.TheVariants.{Kept as WireKept}
use Rattle.dc_tables.specs.TableRows.{TableRows, bus_row, stream_row, is_policed}
use Rattle.dc_time.specs.Intervals.{Intervals}
use Rattle.dc_time.specs.Timed.{timed}
use Rattle.dc_trace.specs.Traces.{brought}

-- what an analyser writes of a timed run: each word as (time, (bus, word)), whether its bus refuses it or not
abbrev pub recorded : List (ℕ × Event) → List (ℕ × (ℕ × ℕ))
recorded run = timed (λ past e. brought e) run

-- these timings of streams, and the spacings of the wires, are the intervals in microseconds
pub record AreTimings (t : TableRows) (us : Intervals) (timings : ℕ → StreamTiming) : Type 0 where
  pub spacings : (b : ℕ) → b < length t.buses → us.spacing b ≡ (bus_row t b).spacing
  pub minimums : (s : ℕ) → s < length t.streams → us.stream_least s ≡ (timings s).min_us
  pub jitters : (s : ℕ) → s < length t.streams → us.stream_jitter s ≡ (timings s).jitter_us

-- on each bus that is not policed the wire is kept, and so is each stream, or no word of it came
pub record KeepsDeclared (t : TableRows) (timings : ℕ → StreamTiming) (capture : List (ℕ × (ℕ × ℕ))) : Type 0 where
  pub wires : (b : ℕ) → b < length t.buses → is_policed t b ≡ false → IsWireState t b capture WireKept
  pub streams : (s : ℕ) → s < length t.streams → is_policed t (stream_row t s).bus ≡ false →
      IsPaceState t s (timings s) capture PaceKept ⊎ IsPaceState t s (timings s) capture Silent
