-- Laws about the runs that captures make. Each is the contract of a function in `laws`.
use Rattle.std.specs.Prelude.{◌≡◌, ℕ, ◌<◌, List, length, map}
use Rattle.std.specs.List.{All}
use Rattle.dc_bound.specs.Window.{ticks_of}
use Rattle.dc_bound.specs.Run.{stamped}
use Rattle.dc_bound.specs.Turns.{NeverFall}
use Rattle.dc_tables.specs.TableRows.{TableRows}
use Rattle.dc_event.specs.Time.{ends}
use Rattle.dc_event.specs.Admissible.{IsRun, KeepsBudgets}
use Rattle.dc_trace.specs.Traces.{tick_at, traced, brought}

-- the run of a capture keeps the budgets
abbrev pub TracesKeepBudgets : TableRows → Type 0
TracesKeepBudgets t = (from : ℕ) (capture : List (ℕ × (ℕ × ℕ))) → KeepsBudgets t (traced t from capture)

-- Where times never fall, what it brings is the capture: each word in its tick, in order
abbrev pub TracesBringTheCapture : TableRows → Type 0
TracesBringTheCapture t = (from : ℕ) (capture : List (ℕ × (ℕ × ℕ))) → NeverFall (ticks_of capture)
    → stamped ends brought 0 (traced t from capture) ≡ map (λ x. (tick_at from t.tick_us x.0, x.1)) capture

-- where the buses of the words are in the tables, so is each number of its events
abbrev pub TracesAreNumbered : TableRows → Type 0
TracesAreNumbered t = (from : ℕ) (capture : List (ℕ × (ℕ × ℕ))) → All (λ x. x.1.0 < length t.buses) capture → IsRun t (traced t from capture)
