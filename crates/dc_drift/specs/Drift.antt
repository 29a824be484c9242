-- What clocks that drift ask of wires and streams and keep of labels, in whole microseconds rounded to the safe side.
use Rattle.std.specs.Prelude.{◌≡◌, ℕ, ◌+◌, ◌-◌, ◌*◌, ◌/◌, ◌<◌, ◌≤◌, length}
use Rattle.std.specs.Int.{div_ceil}
use Rattle.dc_spans.specs.Spans.{Clock}
use Rattle.dc_tables.specs.TableRows.{TableRows, bus_row, stream_row, label_row}
use Rattle.dc_time.specs.Intervals.{Intervals, FitsClock}

-- ---- clocks that drift

-- the longest and the shortest tick, in millionths of a microsecond, of a clock that drifts by up to `ppm` millionths
abbrev pub longest_of : (tick ppm : ℕ) → ℕ
longest_of tick ppm = tick * (1000000 + ppm)

abbrev pub shortest_of : (tick ppm : ℕ) → ℕ
shortest_of tick ppm = tick * (1000000 - ppm)

-- the clock's ticks are the tables', within this drift; its times are in millionths of a microsecond
pub record Drifts (t : TableRows) (ppm : ℕ) (clock : Clock) : Type 0 where
  pub shortest : clock.shortest ≡ shortest_of t.tick_us ppm
  pub longest : clock.longest ≡ longest_of t.tick_us ppm

-- intervals of whole microseconds, in millionths
abbrev pub millionths : Intervals → Intervals
millionths us = record {
  spacing = λ b. us.spacing b * 1000000;
  stream_least = λ s. us.stream_least s * 1000000;
  stream_most = λ s. us.stream_most s * 1000000;
  stream_jitter = λ s. us.stream_jitter s * 1000000;
  label_least = λ x. us.label_least x * 1000000;
  label_most = λ x. us.label_most x * 1000000;
}

-- whole microseconds that fit the tables under each clock of this drift
abbrev pub Fits : TableRows → ℕ → Intervals → Type 0
Fits t ppm us = (clock : Clock) → Drifts t ppm clock → FitsClock t (millionths us) clock

-- ---- the numbers

-- millionths of a microsecond in whole microseconds
abbrev pub rounded_up : ℕ → ℕ
rounded_up millionths = div_ceil millionths 1000000

abbrev pub rounded_down : ℕ → ℕ
rounded_down millionths = millionths / 1000000

-- Of each wire its least spacing; of each stream its least and greatest interval and its jitter; of each label a tick less than its least
-- interval, and a tick more than its greatest
abbrev pub drifting_intervals : TableRows → ℕ → Intervals
drifting_intervals t ppm = record {
  spacing = λ b. rounded_up ((bus_row t b).spacing * (1000000 + ppm));
  stream_least = λ s. rounded_up ((stream_row t s).minimum * longest_of t.tick_us ppm);
  stream_most = λ s. rounded_down ((stream_row t s).maximum * shortest_of t.tick_us ppm);
  stream_jitter = λ s. rounded_down ((stream_row t s).jitter * longest_of t.tick_us ppm);
  label_least = λ x. rounded_down (((label_row t x).minimum - 1) * shortest_of t.tick_us ppm);
  label_most = λ x. rounded_up (((label_row t x).maximum + 1) * longest_of t.tick_us ppm);
}

-- a word of this age in ticks is younger than so many microseconds: its ticks, and the one that runs
abbrev pub oldest_of : TableRows → (ppm age : ℕ) → ℕ
oldest_of t ppm age = rounded_up ((age + 1) * longest_of t.tick_us ppm)

-- ---- none is better

-- in none of these intervals the others are better: they ask no less of wires and streams, and keep labels no closer
pub record AreNoBetter (t : TableRows) (us others : Intervals) : Type 0 where
  pub spacings : (b : ℕ) → b < length t.buses → us.spacing b ≤ others.spacing b
  pub stream_leasts : (s : ℕ) → s < length t.streams → us.stream_least s ≤ others.stream_least s
  pub stream_mosts : (s : ℕ) → s < length t.streams → others.stream_most s ≤ us.stream_most s
  pub stream_jitters : (s : ℕ) → s < length t.streams → others.stream_jitter s ≤ us.stream_jitter s
  pub label_leasts : (x : ℕ) → x < length t.labels → others.label_least x ≤ us.label_least x
  pub label_mosts : (x : ℕ) → x < length t.labels → us.label_most x ≤ others.label_most x

-- they fit, and of all whole microseconds that fit none are better in any of them
pub record AreBest (t : TableRows) (ppm : ℕ) (us : Intervals) : Type 0 where
  pub fit : Fits t ppm us
  pub best : (others : Intervals) → Fits t ppm others → AreNoBetter t us others

-- so many microseconds cover an age and the tick that runs, and no fewer do
pub record IsOldest (t : TableRows) (ppm age us : ℕ) : Type 0 where
  pub covers : (age + 1) * longest_of t.tick_us ppm ≤ us * 1000000
  pub least : (fewer : ℕ) → fewer < us → fewer * 1000000 < (age + 1) * longest_of t.tick_us ppm
