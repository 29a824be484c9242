-- The intervals that are kept in microseconds, and when tables in ticks fit them under a clock.
use Rattle.std.specs.Prelude.{ℕ, ◌+◌, ◌*◌, ◌<◌, ◌≤◌, length}
use Rattle.dc_tables.specs.TableRows.{TableRows, bus_row, stream_row, label_row}
use Rattle.dc_spans.specs.Spans.{Clock}

-- of each bus, stream and label, by their numbers
pub record Intervals : Type 0 where
  pub spacing : ℕ → ℕ
  pub stream_least : ℕ → ℕ
  pub stream_most : ℕ → ℕ
  pub stream_jitter : ℕ → ℕ
  pub label_least : ℕ → ℕ
  pub label_most : ℕ → ℕ

-- The tables' ticks, as long as this clock makes them, are within these intervals: those of streams are no less strict, those of labels no stricter
-- by a tick at both ends
pub record FitsClock (t : TableRows) (us : Intervals) (clock : Clock) : Type 0 where
  pub spacings : (b : ℕ) → b < length t.buses → (bus_row t b).spacing * clock.longest ≤ us.spacing b * t.tick_us
  pub spacings_some : (b : ℕ) → b < length t.buses → 1 ≤ us.spacing b
  pub stream_minimums : (s : ℕ) → s < length t.streams → (stream_row t s).minimum * clock.longest ≤ us.stream_least s
  pub stream_maximums : (s : ℕ) → s < length t.streams → us.stream_most s ≤ (stream_row t s).maximum * clock.shortest
  pub stream_jitters : (s : ℕ) → s < length t.streams → us.stream_jitter s ≤ (stream_row t s).jitter * clock.longest
  pub label_minimums : (x : ℕ) → x < length t.labels → us.label_least x + clock.shortest ≤ (label_row t x).minimum * clock.shortest
  pub label_maximums : (x : ℕ) → x < length t.labels → (label_row t x).maximum * clock.longest + clock.longest ≤ us.label_most x
