-- Laws about timed runs. Each is the contract of a function in `laws`.
use Rattle.std.specs.Prelude.{◌≡◌, ℕ, ◌<◌, List, length}
use Rattle.dc_bound.specs.Window.{ticks_of}
use Rattle.dc_bound.specs.Early.{HoldsCap, jitter_cap}
use Rattle.dc_spans.specs.Spans.{Clock, KeepsPace}
use Rattle.dc_tables.specs.TableRows.{TableRows}
use Rattle.dc_event.specs.Offers.{offered}
use Rattle.dc_event.specs.Buses.{arrivals}
use Rattle.dc_event.specs.Admissible.{IsRun, KeepsSources}
use Rattle.dc_event.specs.Claims.{ClaimsHold}
use Rattle.dc_event.specs.declared.event.Event.{Event}
use Rattle.dc_time.specs.Timed.{events, InTheirTicks, IsTimed}
use Rattle.dc_time.specs.Intervals.{Intervals, FitsClock}
use Rattle.dc_time.specs.Sources.{offer_times, KeepsSourcesInTime}
use Rattle.dc_time.specs.Claims.{ClaimsHoldInTime}

-- what sources keep in microseconds they keep in ticks
abbrev pub SourcesKeepTicks : TableRows → Type 0
SourcesKeepTicks t = (us : Intervals) (clock : Clock) → KeepsPace clock → FitsClock t us clock → (run : List (ℕ × Event)) → InTheirTicks clock run → KeepsSourcesInTime t us run → KeepsSources t (events run)

-- claims that hold in ticks hold in microseconds
abbrev pub ClaimsKeepTime : TableRows → Type 0
ClaimsKeepTime t = (us : Intervals) (clock : Clock) → KeepsPace clock → FitsClock t us clock → (ages : List ℕ) (run : List (ℕ × Event)) → IsTimed clock run → IsRun t (events run)
    → ClaimsHold t ages (events run) → ClaimsHoldInTime t us ages clock run

-- each run happens in time, by each clock
abbrev pub RunsHaveTimes : Type 0
RunsHaveTimes = (clock : Clock) → KeepsPace clock → (run : List Event) → (timed_run : List (ℕ × Event)) × (events timed_run ≡ run) × IsTimed clock timed_run

-- A policed bus refuses no word of a stream that keeps its intervals in microseconds: what is offered arrives
abbrev pub RefusesNothing : TableRows → Type 0
RefusesNothing t = (us : Intervals) (clock : Clock) → KeepsPace clock → FitsClock t us clock → (run : List (ℕ × Event)) → InTheirTicks clock run → (s : ℕ) → s < length t.streams
    → HoldsCap (jitter_cap (us.stream_least s) (us.stream_jitter s)) (offer_times t s run) → ticks_of (arrivals t s (events run)) ≡ offered t s (events run)
