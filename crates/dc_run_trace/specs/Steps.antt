-- How a trace is written word by word.
use Rattle.std.specs.Prelude.{◌≡◌, ◌≢◌, ℕ, ◌+◌, ◌-◌, Option, Some, None, List, [], ◌∷◌, ◌++◌, Result, Ok, Err}
use Rattle.dc_answer.specs.Answer.{Answer, after_all, nothing}
use Rattle.dc_answer.specs.declared.answer.Failure.{Failure}
use Rattle.dc_answer.specs.declared.answer.Failure.TheVariants.{Source, Sink, Memory}
use Rattle.dc_answer.specs.declared.exit.Outcome.{Outcome}
use Rattle.dc_capture.specs.CaptureText.{Capture}
use Rattle.dc_capture.specs.declared.fault.CaptureStop.{CaptureStop}
use Rattle.dc_capture.specs.declared.fault.CaptureStop.TheVariants.{End, Fault, Broken}
use Rattle.dc_event.specs.Steady.{each_below, steady_tick}
use Rattle.dc_event.specs.declared.event.Event.{Event}
use Rattle.dc_run_trace.specs.Answer.{capture_end}
use Rattle.dc_run_trace.specs.Lines.{run_text}
use Rattle.dc_run_trace.specs.declared.clock.Clock.{Clock}
use Rattle.dc_tables.specs.TableRows.{TableRows}
use Rattle.dc_trace.specs.Traces.{arrive, tick_at}

-- ---- where a trace stands

-- where it stands before a word of this time: in tick 0 where none came before it
abbrev pub clock_or : Option Clock → Option ℕ → (time : ℕ) → Clock
clock_or (Some clock) from time = clock
clock_or None (Some from) time = record { from = from; tick = 0 }
clock_or None None time = record { from = time; tick = 0 }

-- ---- what is still to come

-- the steps of n ticks from tick k on
abbrev pub steady_from : TableRows → (k n : ℕ) → List Event
steady_from t k n = each_below (λ i. steady_tick t (k + i)) n

-- the run from within tick k on, where these words are still to come: the steps up to the tick of the next one, and it
abbrev pub run_from : TableRows → (from k : ℕ) → List (ℕ × (ℕ × ℕ)) → List Event
run_from t from k [] = steady_tick t k
run_from t from k (x ∷ xs) = steady_from t k (tick_at from t.tick_us x.0 - k) ++ arrive x ∷ run_from t from (tick_at from t.tick_us x.0) xs

-- by where the trace stands; no word came before where it does not stand yet
abbrev pub run_ahead : TableRows → Option ℕ → Option Clock → List (ℕ × (ℕ × ℕ)) → List Event
run_ahead t from (Some clock) xs = run_from t clock.from clock.tick xs
run_ahead t from None [] = []
run_ahead t from None (x ∷ xs) = run_from t (clock_or None from x.0).from (clock_or None from x.0).tick (x ∷ xs)

-- the answer that is still to come
abbrev pub answer_ahead : TableRows → Option ℕ → Option Clock → Capture → Answer
answer_ahead t from clock rest = after_all (run_text t (run_ahead t from clock rest.words)) (capture_end rest.fault)

-- what is written of a word: the steps up to its tick, and the word
abbrev pub up_to_word : TableRows → Clock → ℕ × (ℕ × ℕ) → List Event
up_to_word t clock x = steady_from t clock.tick (tick_at clock.from t.tick_us x.0 - clock.tick) ++ arrive x ∷ []

-- ---- the end

-- the steps that end the last tick, where there is one
abbrev pub last_tick : TableRows → Option Clock → List Event
last_tick t None = []
last_tick t (Some clock) = steady_tick t clock.tick

-- what stands behind the words where the reader stops so
abbrev pub stop_end : CaptureStop → Answer
stop_end End = nothing
stop_end (Fault f) = capture_end (Some f)
stop_end Broken = nothing

-- a result after a reader's stop: it tells of a failed source exactly where the reader does
abbrev pub StopsBy : CaptureStop → Result Outcome Failure → Type 0
StopsBy stop (Ok outcome) = stop ≢ Broken
StopsBy stop (Err Source) = stop ≡ Broken
StopsBy stop (Err Sink) = Unit {0}
StopsBy stop (Err Memory) = ⊥

-- the answer where the reader stops so
abbrev pub stop_answer : TableRows → Option Clock → CaptureStop → Answer
stop_answer t clock End = after_all (run_text t (last_tick t clock)) nothing
stop_answer t clock (Fault f) = after_all (run_text t (last_tick t clock)) (capture_end (Some f))
stop_answer t clock Broken = nothing
