-- What a gauge tells of the words that came, each as (time, line), in order.
use Rattle.std.specs.Prelude.{◌≡◌, ℕ, List, length}
use Rattle.dc_bound.specs.Window.{ticks_of, HoldAtMost}
use Rattle.dc_bound.specs.Turns.{NeverFall}
use Rattle.dc_bound.specs.Early.{HoldsCap, jitter_cap, pace_of}
use Rattle.dc_gauge.specs.Times.{IsLeastJitter, intervals_of, IsLeastOf, IsGreatestOf, count_over, BreaksAt, last_time}
use Rattle.dc_gauge.specs.declared.stream.StreamGauge.{StreamGauge}
use Rattle.dc_gauge.specs.declared.timing.StreamTiming.{StreamTiming}
use Rattle.dc_gauge.specs.declared.wire.WireGauge.{WireGauge}

-- the times keep the declared minimum with the declared jitter
abbrev pub KeepsTiming : StreamTiming → List ℕ → Type 0
KeepsTiming timing ts = HoldsCap (jitter_cap timing.min_us timing.jitter_us) ts

-- the numbers of a stream that declares this timing
pub record IsStreamGauge (timing : StreamTiming) (came : List (ℕ × ℕ)) (g : StreamGauge) : Type 0 where
  pub order : NeverFall (ticks_of came)
  pub words : g.words ≡ length came
  pub last : g.last ≡ last_time (ticks_of came)
  pub least : IsLeastOf (intervals_of (ticks_of came)) g.least
  pub greatest : IsGreatestOf (intervals_of (ticks_of came)) g.greatest
  pub over : g.over ≡ count_over timing.max_us (intervals_of (ticks_of came))
  pub pace : g.pace ≡ pace_of timing.min_us (ticks_of came)
  pub jitter : IsLeastJitter timing.min_us (ticks_of came) g.jitter
  pub early : BreaksAt (KeepsTiming timing) came g.early

-- the numbers of a wire of this spacing
pub record IsWireGauge (spacing : ℕ) (came : List (ℕ × ℕ)) (g : WireGauge) : Type 0 where
  pub order : NeverFall (ticks_of came)
  pub words : g.words ≡ length came
  pub last : g.last ≡ last_time (ticks_of came)
  pub least : IsLeastOf (intervals_of (ticks_of came)) g.least
  pub broken : BreaksAt (HoldAtMost 1 spacing) came g.broken
