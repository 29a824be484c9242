-- Timed runs of small tables in which a word is nearly as old as it may be: what shows that the theorem in microseconds speaks of something.
use Rattle.std.specs.Prelude.{◌≡◌, ℕ, zero, suc, ◌+◌, ◌*◌, ◌%◌, ◌==◌, cond, true, Some, List, [], ◌∷◌, ◌++◌}
use Rattle.dc_check.specs.Small.{small_tables}
use Rattle.dc_event.specs.Emissions.{emission}
use Rattle.dc_event.specs.declared.event.Event.{Event}
use Rattle.dc_event.specs.declared.event.Event.TheVariants.{Tick, Arrive, Route, Send}
use Rattle.dc_spans.specs.Spans.{Clock, exact_clock}
use Rattle.dc_tables.specs.TableRows.{TableRows}
use Rattle.dc_time.specs.Claims.{CopiesSince}
use Rattle.dc_time.specs.Intervals.{Intervals}
use Rattle.dc_time.specs.Timed.{events}

-- 10 to 20 milliseconds between two words of a stream or a label, 350 microseconds between two on the wire
abbrev pub small_intervals : Intervals
small_intervals = record {
  spacing = λ _. 350;
  stream_least = λ _. 10000;
  stream_most = λ _. 20000;
  stream_jitter = λ _. 0;
  label_least = λ _. 10000;
  label_most = λ _. 20000;
}

-- the small tables with a bus that refuses early words, so that nothing is asked of its streams and its wire
abbrev pub policed_tables : TableRows
policed_tables = record small_tables { buses = record { queue = 2; police = true; spacing = 350; first = 0; streams = 2; router = 0 } ∷ [] }

-- ticks of a millisecond
abbrev pub small_clock : Clock
small_clock = exact_clock 0 1000

-- tick k: at its begin the router steps, and the output in every other tick
abbrev pub quiet_tick : ℕ → List (ℕ × Event)
quiet_tick k = (k * 1000, Route 0) ∷ (cond (k % 2 == 0) ((k * 1000, Send 0) ∷ []) [] ++ (suc k * 1000, Tick) ∷ [])

-- n such ticks, the first of number k
abbrev pub quiet_ticks : (k n : ℕ) → List (ℕ × Event)
quiet_ticks k zero = []
quiet_ticks k (suc n) = quiet_tick k ++ quiet_ticks (suc k) n

-- a tick in which the router steps before a word of label 204 (octal) comes, and one of label 203 at this time
abbrev pub busy_tick : (time : ℕ) → List (ℕ × Event)
busy_tick time = (6000, Route 0) ∷ (6000, Arrive 0xE0000021 0) ∷ (time, Arrive 0x600000C1 0) ∷ (time, Send 0) ∷ (7000, Tick) ∷ []

-- thirty ticks, the seventh of which is the busy one
abbrev pub old_past : (time : ℕ) → List (ℕ × Event)
old_past time = quiet_ticks 0 6 ++ (busy_tick time ++ quiet_ticks 7 23)

-- and a send in the last microsecond of the one that follows
abbrev pub old_run : (time : ℕ) → List (ℕ × Event)
old_run time = old_past time ++ (30999, Send 0) ∷ []

-- at a step of the run a label leaves that copies a word which came so many microseconds before, less than the limit
pub record SendsOld (t : TableRows) (limit old : ℕ) (run : List (ℕ × Event)) : Type 0 where
  pub past : List (ℕ × Event)
  pub rest : List (ℕ × Event)
  pub event : ℕ × Event
  pub label : ℕ
  pub word : ℕ × ℕ
  pub came : ℕ
  pub at : run ≡ past ++ (event ∷ rest)
  pub leaves : emission t (events past) event.1 ≡ Some label
  pub copies : CopiesSince t label limit past event word came
  pub after : event.0 ≡ came + old
