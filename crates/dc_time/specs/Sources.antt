-- What is asked of the sources in microseconds.
use Rattle.std.specs.Prelude.{◌≡◌, ℕ, false, ◌<◌, Option, None, option_map, List, length}
use Rattle.dc_bound.specs.Window.{HoldAtMost, ticks_of}
use Rattle.dc_bound.specs.Early.{HoldsCap, jitter_cap}
use Rattle.dc_tables.specs.TableRows.{TableRows, stream_row, is_policed}
use Rattle.dc_event.specs.Offers.{only, offer_on}
use Rattle.dc_event.specs.Buses.{arrival_of}
use Rattle.dc_event.specs.declared.event.Event.{Event}
use Rattle.dc_event.specs.declared.event.Event.TheVariants.{Tick, Arrive, Route, Send}
use Rattle.dc_time.specs.Timed.{timed}
use Rattle.dc_time.specs.Intervals.{Intervals}

-- whether the event is an arrival of the stream, after the events of past
abbrev pub stream_arrival : TableRows → ℕ → List Event → Event → Option ℕ
stream_arrival t s past e = only s (arrival_of t (stream_row t s).bus past e)

-- what the event brings to the bus: the number of the stream, and the word
abbrev pub brought : TableRows → ℕ → List Event → Event → Option (ℕ × ℕ)
brought t b past Tick = None
brought t b past (Arrive w a) = option_map (λ s. (s, w)) (arrival_of t b past (Arrive w a))
brought t b past (Route r) = None
brought t b past (Send o) = None

-- when words of the stream came; when any came to the bus
abbrev pub stream_times : TableRows → ℕ → List (ℕ × Event) → List ℕ
stream_times t s run = ticks_of (timed (stream_arrival t s) run)

abbrev pub bus_times : TableRows → ℕ → List (ℕ × Event) → List ℕ
bus_times t b run = ticks_of (timed (arrival_of t b) run)

-- when words of the stream were offered to its bus, whether it let them in or not
abbrev pub offer_times : TableRows → ℕ → List (ℕ × Event) → List ℕ
offer_times t s run = ticks_of (timed (λ past e. offer_on t s e) run)

-- On a bus that is not policed, any L consecutive microseconds hold at most (L + jitter) / least arrivals of a stream, rounded up
-- (without jitter: two are at least the least interval apart), and two words on its wire are at least its spacing apart
pub record KeepsSourcesInTime (t : TableRows) (us : Intervals) (run : List (ℕ × Event)) : Type 0 where
  pub streams_rest : (s : ℕ) → s < length t.streams → is_policed t (stream_row t s).bus ≡ false → HoldsCap (jitter_cap (us.stream_least s) (us.stream_jitter s)) (stream_times t s run)
  pub wires_rest : (b : ℕ) → b < length t.buses → is_policed t b ≡ false → HoldAtMost 1 (us.spacing b) (bus_times t b run)
