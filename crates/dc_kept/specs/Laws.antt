-- Laws above captures and the runs that they record. Each is the contract of a function in `laws`.
use Rattle.std.specs.Prelude.{ℕ, ◌<◌, ◌≤◌, List, length}
use Rattle.std.specs.List.{All}
use Rattle.dc_bound.specs.Turns.{NeverFall}
use Rattle.dc_bound.specs.Window.{ticks_of}
use Rattle.dc_event.specs.Admissible.{IsAdmissible, KeepsSources}
use Rattle.dc_event.specs.declared.event.Event.{Event}
use Rattle.dc_gauge.specs.declared.timing.StreamTiming.{StreamTiming}
use Rattle.dc_kept.specs.Recorded.{AreTimings, KeepsDeclared, recorded}
use Rattle.dc_spans.specs.Spans.{Clock, KeepsPace, exact_clock}
use Rattle.dc_tables.specs.TableRows.{TableRows}
use Rattle.dc_time.specs.Intervals.{Intervals, FitsClock}
use Rattle.dc_time.specs.Sources.{KeepsSourcesInTime}
use Rattle.dc_time.specs.Timed.{events, InTheirTicks}
use Rattle.dc_trace.specs.Traces.{traced}

-- a run whose capture keeps what is declared keeps what is asked of the sources in microseconds
abbrev pub KeptCapturesKeepTime : TableRows → Type 0
KeptCapturesKeepTime t = (us : Intervals) (timings : ℕ → StreamTiming) → AreTimings t us timings → (run : List (ℕ × Event))
    → KeepsDeclared t timings (recorded run) → KeepsSourcesInTime t us run

-- and in ticks, by each clock that the intervals fit
abbrev pub KeptCapturesKeepTicks : TableRows → Type 0
KeptCapturesKeepTicks t = (us : Intervals) (timings : ℕ → StreamTiming) → AreTimings t us timings → (clock : Clock) → KeepsPace clock → FitsClock t us clock
    → (run : List (ℕ × Event)) → InTheirTicks clock run → KeepsDeclared t timings (recorded run) → KeepsSources t (events run)

-- where times never fall from `from` on and the buses are there, the run that a capture makes which keeps what is declared is admissible
abbrev pub KeptTracesAreAdmissible : TableRows → Type 0
KeptTracesAreAdmissible t = (us : Intervals) (timings : ℕ → StreamTiming) → AreTimings t us timings → (from : ℕ) → FitsClock t us (exact_clock from t.tick_us)
    → (capture : List (ℕ × (ℕ × ℕ))) → NeverFall (ticks_of capture) → All (λ x. from ≤ x.0) capture → All (λ x. x.1.0 < length t.buses) capture
    → KeepsDeclared t timings capture → IsAdmissible t (traced t from capture)
