-- The run of a capture's text.
use Rattle.std.proofs.Common.{◌≡◌, ℕ, Option, None, List, refl, sym, ap, ◌∙◌}
use Rattle.dc_bound.specs.Run.{stamped}
use Rattle.dc_bound.specs.Window.{ticks_of}
use Rattle.dc_event.specs.Steady.{steady}
use Rattle.dc_event.specs.Time.{ends, route_of, send_of}
use Rattle.dc_event.specs.declared.event.Event.{Event}
use Rattle.dc_event.specs.declared.event.Event.TheVariants.{Arrive}
use Rattle.dc_run_trace.proofs.Tracing.{recorded_order}
use Rattle.dc_run_trace.specs.Answer.{begin_of, recorded}
use Rattle.dc_run_trace.specs.Laws.{AnswersAreRuns, IsRunOf}
use Rattle.dc_tables.specs.TableRows.{TableRows}
use Rattle.dc_trace.specs.Laws.{TracesBringTheCapture, TracesKeepBudgets}
use Rattle.dc_trace.specs.Traces.{traced, traced_ticks}
use Rattle.dc_trace.specs.lemmas.Stepping.{stamped-steps, steps, traced-steps}

steady_steps : (t : TableRows) (from : ℕ) (words : List (ℕ × (ℕ × ℕ))) → steps (traced t from words) ≡ steady t (traced_ticks from t.tick_us words)
unfolding traced steady
steady_steps t from words = traced-steps t from words (traced_ticks from t.tick_us words)

-- what picks no word picks the same of both
same_steps : (t : TableRows) (from : ℕ) (words : List (ℕ × (ℕ × ℕ))) (pick : Event → Option ℕ) → ((w b : ℕ) → pick (Arrive w b) ≡ None)
    → ticks_of (stamped ends pick 0 (traced t from words)) ≡ ticks_of (stamped ends pick 0 (steady t (traced_ticks from t.tick_us words)))
same_steps t from words pick none =
    ap (λ (xs : List (ℕ × ℕ)). ticks_of xs) (sym (stamped-steps pick none 0 (traced t from words)) ∙ ap (λ (run : List Event). stamped ends pick 0 run) (steady_steps t from words))

pub answers_runs : (t : TableRows) → TracesKeepBudgets t → TracesBringTheCapture t → AnswersAreRuns t
answers_runs t budgets brings from text =
    let words : List (ℕ × (ℕ × ℕ)) = (recorded t from text).words in
    let begin : ℕ = begin_of from words in (
      traced t begin words,
      record {
        arrivals = brings begin words (recorded_order t from text);
        routers = λ r. same_steps t begin words (route_of r) (λ w b. refl);
        outputs = λ o. same_steps t begin words (send_of o) (λ w b. refl);
        budgets = budgets begin words;
      },
      refl,
    )
