-- Laws about clocks. Each is the contract of a function in `laws`.
use Rattle.std.specs.Prelude.{ℕ, ◌*◌, ◌≤◌, List}
use Rattle.dc_bound.specs.Window.{HoldAtMost, HoldsWire, ticks_of}
use Rattle.dc_bound.specs.Early.{HoldsCap, jitter_cap}
use Rattle.dc_spans.specs.Spans.{Clock, KeepsPace, exact_clock, AreTimesOf}

-- Entries that keep a least interval and a jitter in microseconds keep them in ticks, where the ticks' least interval is no longer than it and
-- their jitter no shorter; so do words a spacing apart; and exact clocks keep their pace
pub record SpansBecomeWindows : Type 0 where
  pub of_streams : (clock : Clock) (least jitter minimum late : ℕ) (ticks times : List (ℕ × ℕ)) → KeepsPace clock → 1 ≤ minimum → minimum * clock.longest ≤ least → jitter ≤ late * clock.longest
      → AreTimesOf clock ticks times → HoldsCap (jitter_cap least jitter) (ticks_of times) → HoldsCap (jitter_cap minimum late) (ticks_of ticks)
  pub of_wires : (clock : Clock) (gap tick spacing : ℕ) (ticks times : List (ℕ × ℕ)) → KeepsPace clock → 1 ≤ gap → 1 ≤ spacing → spacing * clock.longest ≤ gap * tick
      → AreTimesOf clock ticks times → HoldAtMost 1 gap (ticks_of times) → HoldsWire tick spacing (ticks_of ticks)
  pub of_exact : (start tick : ℕ) → 1 ≤ tick → KeepsPace (exact_clock start tick)
