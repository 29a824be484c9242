-- Laws about what `trace` answers. Each is the contract of a function in `laws`.
use Rattle.std.specs.Prelude.{◌≡◌, ℕ, Option, List, map}
use Rattle.dc_answer.specs.Answer.{after_all}
use Rattle.dc_bound.specs.Run.{stamped}
use Rattle.dc_event.specs.Admissible.{KeepsBudgets}
use Rattle.dc_event.specs.Steady.{steady}
use Rattle.dc_event.specs.Time.{ends, route_ticks, send_ticks}
use Rattle.dc_event.specs.declared.event.Event.{Event}
use Rattle.dc_run_trace.specs.Answer.{begin_of, capture_end, recorded, trace_answer}
use Rattle.dc_run_trace.specs.Lines.{run_text}
use Rattle.dc_tables.specs.TableRows.{TableRows}
use Rattle.dc_trace.specs.Traces.{brought, tick_at, traced_ticks}

-- A run of these words, where tick 0 begins then: its arrivals are the words, each in its tick, in order; each router and each output makes its steps
-- in the ticks in which it makes them in the steady run of as many ticks; and it keeps the budgets
pub record IsRunOf (t : TableRows) (from : ℕ) (words : List (ℕ × (ℕ × ℕ))) (run : List Event) : Type 0 where
  pub arrivals : stamped ends brought 0 run ≡ map (λ x. (tick_at from t.tick_us x.0, x.1)) words
  pub routers : (r : ℕ) → route_ticks r run ≡ route_ticks r (steady t (traced_ticks from t.tick_us words))
  pub outputs : (o : ℕ) → send_ticks o run ≡ send_ticks o (steady t (traced_ticks from t.tick_us words))
  pub budgets : KeepsBudgets t run

-- what is answered to the text of a capture is the text of such a run, and behind it the end of the capture
abbrev pub AnswersAreRuns : TableRows → Type 0
AnswersAreRuns t = (from : Option ℕ) (text : List ℕ) →
    (run : List Event) × IsRunOf t (begin_of from (recorded t from text).words) (recorded t from text).words run
    × (trace_answer t from (recorded t from text) ≡ after_all (run_text t run) (capture_end (recorded t from text).fault))
