-- Which timed runs are admissible: timed by a clock, of these tables, by sources that keep their microseconds and actors that keep their budgets.
use Rattle.std.specs.Prelude.{ℕ, List}
use Rattle.dc_event.specs.Admissible.{IsRun, KeepsBudgets}
use Rattle.dc_event.specs.declared.event.Event.{Event}
use Rattle.dc_spans.specs.Spans.{Clock}
use Rattle.dc_tables.specs.TableRows.{TableRows}
use Rattle.dc_time.specs.Intervals.{Intervals}
use Rattle.dc_time.specs.Sources.{KeepsSourcesInTime}
use Rattle.dc_time.specs.Timed.{events, IsTimed}

-- a timed run of these tables whose sources keep these intervals
pub record IsAdmissibleInTime (t : TableRows) (us : Intervals) (clock : Clock) (run : List (ℕ × Event)) : Type 0 where
  pub timing : IsTimed clock run
  pub numbers : IsRun t (events run)
  pub sources : KeepsSourcesInTime t us run
  pub budgets : KeepsBudgets t (events run)
